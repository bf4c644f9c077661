-- The tree of the benchmark has its typed program by the rules of typing.
use Rattle.std.proofs.Common.{◌≡◌, ◌<◌, ◌≤◌, ℕ, zero, suc, ◌+◌, Bool, true, false, cond, ◌||◌, max, List, [], ◌∷◌}
use Rattle.std.proofs.Common.{◌++◌, map, length}
use Rattle.std.proofs.Common.{codes, Option, Some, None, refl, sym, ap, ◌∙◌, subst, arith, append_assoc, nat_le}
use Rattle.std.specs.Prelude.{decimal}
use Rattle.c_tree.specs.declared.token.Kind.{Kind}
use Rattle.c_tree.specs.declared.token.Kind.TheVariants.{Int, Long}
use Rattle.c_tree.specs.declared.tree.BinaryOp.{BinaryOp}
use Rattle.c_tree.specs.declared.tree.BinaryOp.TheVariants.{Less, Add, Subtract, Remainder}
use Rattle.c_tree.specs.declared.tree.Expr.{Expr}
use Rattle.c_tree.specs.declared.tree.ExprNode.TheVariants as node
use Rattle.c_tree.specs.declared.tree.ArraySize.TheVariants as sizes
use Rattle.c_tree.specs.declared.tree.Param.{Param}
use Rattle.c_tree.specs.declared.tree.Program.{Program}
use Rattle.c_tree.specs.declared.tree.Stmt.{Stmt}
use Rattle.c_tree.specs.declared.tree.Top.{Top}
use Rattle.c_tree.specs.declared.typed.Callee.TheVariants as callee
use Rattle.c_tree.specs.declared.typed.Place.TheVariants as place
use Rattle.c_tree.specs.declared.typed.Slot.TheVariants as slot
use Rattle.c_tree.specs.declared.typed.TypedExpr.{TypedExpr}
use Rattle.c_tree.specs.declared.typed.TypedStmt.{TypedStmt}
use Rattle.c_constant.specs.Need.{Needs, plain, needs, need_fits, call_need, assign_need, indexes_need, element_needs}
use Rattle.c_constant.specs.declared.constants.Constant.{Constant}
use Rattle.c_constant.specs.Constant.{ends, length_in}
use Rattle.c_constant.proofs.Nodes.{value-Number, needs-Number, needs-Name, needs-Element, needs-Call, needs-Group}
use Rattle.c_constant.proofs.Nodes.{needs-Cast}
use Rattle.c_constant.proofs.Nodes.{needs-Binary, needs-Assign}
use Rattle.c_type_expr.specs.declared.meaning.Meaning.{Meaning}
use Rattle.c_type_expr.specs.declared.meaning.Meaning.TheVariants as meaning
use Rattle.c_type_expr.specs.Scope.{Scope, look_up, or_else, find, bound}
use Rattle.c_type_expr.specs.declared.role.Role.{Role}
use Rattle.c_type_expr.specs.declared.role.Role.TheVariants.{Value, Free, Written}
use Rattle.c_type_expr.specs.Typed as ty
use Rattle.c_type_expr.specs.Typed.{Typed}
use Rattle.c_type_expr.specs.Roles as places
use Rattle.c_type.specs.declared.file_scope.FileScope.{FileScope}
use Rattle.c_type.specs.declared.state.State.{State}
use Rattle.c_type.specs.States.{nowhere, in_loop, is_end}
use Rattle.c_type.specs.FileScopes.{with_include, empty_file, main_name}
use Rattle.c_type_rules.specs.Constants as constants
use Rattle.c_type_rules.specs.Statements as st
use Rattle.c_type_rules.specs.Statements.{Full, Types, TypesAll}
use Rattle.c_type_rules.specs.Units as un
use Rattle.c_type_rules.specs.Units.{Item, Items, Accepts}
use Rattle.bench_laws.proofs.Terms.{Code}
use Rattle.bench_laws.proofs.Terms.{typed, stated}
use Rattle.bench_laws.proofs.Programs as p
use Rattle.bench_laws.proofs.Trees as t
use Rattle.c_grammar.specs.Operators as operators
use Rattle.bench_laws.proofs.Trees.{name_a, name_i, name_x, name_f, tree}
use Rattle.bench_laws.proofs.Names.{frame, array_meaning, function_meaning, find_a, find_putchar, find_x}
use Rattle.bench_laws.proofs.Names.{find_i, find_main}
use Rattle.bench_laws.proofs.Names.{find_new, find_function, functions_from, functions_are}
use Rattle.bench_laws.proofs.Names.{calls_function, calls_main}

-- NEEDS

module _ (l : ℕ) where
  need_binary : (k : ℕ) (o : BinaryOp) (x y : Expr) (a b : Needs) → needs x ≡ a → needs y ≡ b
      → needs (t.operation l k o x y) ≡ plain (max a.need (1 + b.need))
  need_binary k o x y a b e f = needs-Binary (t.operation l k o x y) o x y refl
      ∙ ap (λ (n : Needs). plain (max n.need (1 + (needs y).need))) e
      ∙ ap (λ (n : Needs). plain (max a.need (1 + n.need))) f

  need_element : (i : Expr) (a : Needs) → needs i ≡ a → needs (t.element l i) ≡ element_needs a.need
  need_element i a e = needs-Element (t.element l i) name_a None i refl ∙ ap (λ (n : Needs). element_needs n.need) e

  need_assign : (k : ℕ) (x y : Expr) (a b : Needs) → needs x ≡ a → needs y ≡ b
      → needs (t.assigned l k x y) ≡ plain (assign_need a.index b.need)
  need_assign k x y a b e f = needs-Assign (t.assigned l k x y) None x y refl
      ∙ ap (λ (n : Needs). plain (assign_need n.index (needs y).need)) e
      ∙ ap (λ (n : Needs). plain (assign_need a.index n.need)) f

  need_call : (w : List ℕ) (x : Expr) (a : Needs) → needs x ≡ a
      → needs (operators.at l (node.Call w (x ∷ []))) ≡ plain (call_need (a ∷ []))
  need_call w x a e = needs-Call (operators.at l (node.Call w (x ∷ []))) w (x ∷ []) refl
      ∙ ap (λ (n : Needs). plain (call_need (n ∷ []))) e

  need_cast : (k : Kind) (x : Expr) (a : Needs) → needs x ≡ a → needs (operators.at l (node.Cast k x)) ≡ plain a.need
  need_cast k x a e = needs-Cast (operators.at l (node.Cast k x)) k x refl ∙ ap (λ (n : Needs). plain n.need) e

  need_group : (x : Expr) (a : Needs) → needs x ≡ a → needs (operators.at l (node.Group x)) ≡ a
  need_group x a e = needs-Group (operators.at l (node.Group x)) x refl ∙ e

  need_number : (v : ℕ) → needs (t.number l v) ≡ plain 1
  need_number v = needs-Number (t.number l v) v Int refl

  need_name : (w : List ℕ) → needs (t.name l w) ≡ plain 1
  need_name w = needs-Name (t.name l w) w refl

-- a need that is known fits
fits : (e : Expr) (a : Needs) → needs e ≡ a → nat_le a.need 16 ≡ true → need_fits e ≡ true
fits e a h f = ap (λ (n : Needs). nat_le n.need 16) h ∙ f

-- EXPRESSIONS

-- the scope in a function behind those below n, and in a block of it
abbrev in_function : ℕ → Scope
in_function n =
    (bound name_i (meaning.Scalar Long (place.Scalar 1)) ∷ bound name_x (meaning.Scalar Long (place.Scalar 0)) ∷ [])
    ∷ frame n ∷ []

abbrev in_loop_of : ℕ → Scope
in_loop_of n = [] ∷ in_function n

-- the scope in main
abbrev in_main : ℕ → Scope
in_main n = (bound name_x (meaning.Scalar Long (place.Scalar 0)) ∷ [])
    ∷ (bound main_name (meaning.Function (Some Int) [] (Some (callee.Func n)) true) ∷ frame n) ∷ []

module _ (l : t.InLine) (n : ℕ) where
  set_i_full : (v : ℕ) → Full (in_loop_of n) Free (t.set_i l v) (typed (p.set_i l v))
  set_i_full v = (
    ty.assignment places.a_name (ty.scalar refl refl) (ty.number refl) refl,
    fits _ _ (need_assign (l 0) (l 1) (t.i_of (l 0)) (t.number (l 2) v) _ _ (need_name (l 0) name_i)
        (need_number (l 2) v)) refl,
  )

  below_full : Full (in_loop_of n) Value (t.below_16 l) (typed (p.below_16 l))
  below_full = (
    ty.operation (ty.scalar refl refl) (ty.number refl) refl,
    fits _ _ (need_binary (l 0) (l 1) Less (t.i_of (l 0)) (t.number (l 2) 16) _ _ (need_name (l 0) name_i)
        (need_number (l 2) 16)) refl,
  )

  step_full : Full (in_loop_of n) Free (t.step l) (typed (p.step l))
  step_full = (
    ty.assignment places.a_name (ty.scalar refl refl)
        (ty.operation (ty.scalar refl refl) (ty.number refl) refl) refl,
    fits _ _ (need_assign (l 0) (l 1) (t.i_of (l 0)) (t.operation (l 2) (l 3) Add (t.i_of (l 2)) (t.number (l 4) 1)) _ _
        (need_name (l 0) name_i)
        (need_binary (l 2) (l 3) Add (t.i_of (l 2)) (t.number (l 4) 1) _ _ (need_name (l 2) name_i)
        (need_number (l 4) 1))) refl,
  )

  look_a : look_up (in_loop_of n) name_a ≡ Some array_meaning
  look_a = ap (λ (m : Option Meaning). or_else m None) (find_a n)

  look_a_outside : look_up (in_function n) name_a ≡ Some array_meaning
  look_a_outside = ap (λ (m : Option Meaning). or_else m None) (find_a n)

  fill_full : Full (in_loop_of n) Free (t.fill l) (typed (p.filled l))
  fill_full = (
    ty.assignment (places.an_element None (t.i_of (l 2))) (ty.element (ty.scalar refl refl) look_a refl)
        (ty.operation (ty.scalar refl refl) (ty.scalar refl refl) refl) refl,
    fits _ _ (need_assign (l 0) (l 4) (t.element (l 0) (t.i_of (l 2)))
        (t.operation (l 5) (l 6) Add (t.x_of (l 5)) (t.i_of (l 7))) _ _
        (need_element (l 0) (t.i_of (l 2)) _ (need_name (l 2) name_i))
        (need_binary (l 5) (l 6) Add (t.x_of (l 5)) (t.i_of (l 7)) _ _ (need_name (l 5) name_x)
        (need_name (l 7) name_i))) refl,
  )

  add_up_full : Full (in_loop_of n) Free (t.add_up l) (typed (p.added_up l))
  add_up_full = (
    ty.assignment (places.an_element None (t.i_of (l 2))) (ty.element (ty.scalar refl refl) look_a refl)
        (ty.operation (ty.element (ty.scalar refl refl) look_a refl)
        (ty.element (ty.operation (ty.scalar refl refl) (ty.number refl) refl) look_a refl) refl) refl,
    fits _ _ (need_assign (l 0) (l 4) (t.element (l 0) (t.i_of (l 2)))
        (t.operation (l 5) (l 9) Add (t.element (l 5) (t.i_of (l 7))) (t.before (l 10) (l 12) (l 13) (l 14))) _ _
        (need_element (l 0) (t.i_of (l 2)) _ (need_name (l 2) name_i))
        (need_binary (l 5) (l 9) Add (t.element (l 5) (t.i_of (l 7))) (t.before (l 10) (l 12) (l 13) (l 14)) _ _
        (need_element (l 5) (t.i_of (l 7)) _ (need_name (l 7) name_i))
        (need_element (l 10) (t.operation (l 12) (l 13) Subtract (t.i_of (l 12)) (t.number (l 14) 1)) _
        (need_binary (l 12) (l 13) Subtract (t.i_of (l 12)) (t.number (l 14) 1) _ _ (need_name (l 12) name_i)
        (need_number (l 14) 1))))) refl,
  )

  sum_full : (k : ℕ) → Full (in_function n) Value (t.sum l k) (typed (p.sum l k))
  sum_full k = (
    ty.operation (ty.element (ty.number refl) look_a_outside refl) (ty.number refl) refl,
    fits _ _ (need_binary (l 0) (l 4) Add (t.element (l 0) (t.number (l 2) 15)) (t.number (l 5) k) _ _
        (need_element (l 0) (t.number (l 2) 15) _ (need_number (l 2) 15)) (need_number (l 5) k)) refl,
  )

  advance_full : (k : ℕ) → k < n → n ≤ 64
      → Full (in_main n) Free (t.assigned (l 0) (l 1) (t.x_of (l 0)) (t.next_x (t.onward 2 l) k)) (typed (p.advanced
      l k))
  advance_full k below few = (
    ty.assignment places.a_name (ty.scalar refl refl)
        (ty.operation (ty.call (ap (λ (m : Option Meaning). or_else m None)
        (find_function n k below few)) (ty.value (ty.scalar refl refl) ty.none) refl) (ty.number refl) refl) refl,
    fits _ _ (need_assign (l 0) (l 1) (t.x_of (l 0)) (t.next_x (t.onward 2 l) k) _ _ (need_name (l 0) name_x)
        (need_binary (l 2) (l 6) Remainder (t.call_of (t.onward 2 l) k) (t.number (l 7) 1000) _ _
        (need_call (l 2) (name_f k) (t.x_of (l 4)) _ (need_name (l 4) name_x)) (need_number (l 7) 1000))) refl,
  )

  low_typed : Typed (in_main n) Value (t.low l) (typed (p.low l))
  low_typed = ty.conversion (ty.group (ty.operation (ty.scalar refl refl) (ty.number refl) refl)) refl

  need_low : needs (t.low l) ≡ plain 2
  need_low = need_cast (l 0) Int (operators.at (l 3) (node.Group (t.letter (t.onward 4 l)))) _
      (need_group (l 3) (t.letter (t.onward 4 l)) _
      (need_binary (l 4) (l 5) Remainder (t.x_of (l 4)) (t.number (l 6) 26) _ _ (need_name (l 4) name_x)
      (need_number (l 6) 26)))

  result_full : Full (in_main n) Value (t.result l) (typed (p.result l))
  result_full = (
    ty.conversion (ty.scalar refl refl) refl,
    fits _ _ (need_cast (l 0) Int (t.x_of (l 3)) _ (need_name (l 3) name_x)) refl,
  )

show_full : (l : t.InLine) (n : ℕ) → Full (in_main n) Free (t.put l) (typed (p.shown l))
show_full l n = (
  ty.call (ap (λ (m : Option Meaning). or_else m None) (find_putchar n))
      (ty.value (ty.operation (ty.number refl) (low_typed (t.onward 4 l) n) refl) ty.none) refl,
  fits _ _ (need_call (l 0) (codes "putchar") (t.shown (t.onward 2 l)) _
      (need_binary (l 2) (l 3) Add (t.number (l 2) 65) (t.low (t.onward 4 l)) _ _ (need_number (l 2) 65)
      (need_low (t.onward 4 l) n))) refl,
)

-- FUNCTIONS

-- the state of a function's typing behind its locals
abbrev in_body : ℕ → State
in_body n = record {
  names = in_function n;
  scalars = slot.Scalar Long ∷ slot.Scalar Long ∷ [];
  arrays = [];
  result = Some Long;
}

-- before them
abbrev before_body : ℕ → State
before_body n = record {
  names = (bound name_x (meaning.Scalar Long (place.Scalar 0)) ∷ []) ∷ frame n ∷ [];
  scalars = slot.Scalar Long ∷ [];
  arrays = [];
  result = Some Long;
}

body_types : (l : t.InLine) (n k : ℕ)
    → TypesAll nowhere (before_body n) (t.function_body l k) (map stated (p.function_code l k)) (in_body n)
body_types l n k =
    st.one_more (st.scalar_declared (ap (λ (m : Option Meaning). is_end (or_else m None)) (find_i n)) (omega arith)
    st.without_value)
    (st.one_more (st.for_loop (st.first_value (set_i_full (t.onward 12 l) n 0))
    (st.present (below_full (t.onward 16 l) n)) (st.present (step_full (t.onward 20 l) n))
    (st.expression (st.present (fill_full (t.onward 26 l) n))))
    (st.one_more (st.for_loop (st.first_value (set_i_full (t.onward 37 l) n 1))
    (st.present (below_full (t.onward 41 l) n)) (st.present (step_full (t.onward 45 l) n))
    (st.expression (st.present (add_up_full (t.onward 51 l) n))))
    (st.one_more (st.returns_value refl (sum_full (t.onward 69 l) n k))
    st.no_more)))

-- the file scope behind the functions below n
abbrev file : (ℕ → t.InLine) → ℕ → FileScope
file o n = record { names = frame n ∷ []; globals = p.array ∷ []; bytes = 128; functions = p.functions o n }

function_item : (o : t.Offsets) (n k : ℕ) → k < n → n ≤ 64
    → Item (tree o n) (file o.functions k) (t.function (o.functions k) k).node (file o.functions (suc k))
function_item o n k below few =
    un.definition {v = in_body (suc k)} (calls_function o n k below few) (
      un.one_param (un.no_row_size refl)
          (un.named refl (ap (λ (m : Option Meaning). is_end (or_else m None)) (find_x k)))
          (omega arith) un.no_param,
      subst (λ (m : Option Meaning). un.Agrees true (Some Long) (slot.Scalar Long ∷ []) (or_else m None))
          (sym (find_new k k (omega arith) (omega arith))) un.fresh,
    )
    (un.outermost (body_types (o.functions k) (suc k) k))

-- the functions from a on, and what follows them
items_from : (o : t.Offsets) (n a m : ℕ) (ts : List Top) (W : FileScope) → a + m ≤ n → n ≤ 64
    → Items (tree o n) (file o.functions (a + m)) ts W
    → Items (tree o n) (file o.functions a) (functions_from o.functions a m ++ ts) W
items_from o n a zero ts W h few rest =
    let e : a + 0 ≡ a = omega arith in subst (λ (b : ℕ). Items (tree o n) (file o.functions b) ts W) e rest
items_from o n a (suc m) ts W h few rest =
    let e : a + suc m ≡ suc a + m = omega arith in
    un.one_item (function_item o n a (omega arith) few)
    (items_from o n (suc a) m ts W (omega arith) few (subst (λ (b : ℕ). Items (tree o n) (file o.functions b) ts W) e
    rest))

-- MAIN

-- the state of main's typing
abbrev in_main_body : ℕ → State
in_main_body n = record {
  names = in_main n;
  scalars = slot.Scalar Long ∷ [];
  arrays = [];
  result = Some Int;
}

abbrev before_main : ℕ → State
before_main n = record {
  names = [] ∷ (bound main_name (meaning.Function (Some Int) [] (Some (callee.Func n)) true) ∷ frame n) ∷ [];
  scalars = [];
  arrays = [];
  result = Some Int;
}

calls_types : (o : ℕ → t.InLine) (n k : ℕ) (ss : List Stmt) (cs : List Code) → k ≤ n → n ≤ 64
    → TypesAll nowhere (in_main_body n) ss (map stated cs) (in_main_body n)
    → TypesAll nowhere (in_main_body n) (t.calls o k ++ ss) (map stated (p.calls o k ++ cs)) (in_main_body n)
calls_types o n zero ss cs h few rest = rest
calls_types o n (suc k) ss cs h few rest =
    let l = o k in
    let two = t.advance l k ∷ t.show (t.onward 9 l) ∷ [] in
    subst (λ (xs : List Stmt). TypesAll nowhere (in_main_body n) xs (map stated (p.calls o (suc k) ++ cs))
    (in_main_body n))
    (sym (append_assoc (t.calls o k) two ss))
    (subst (λ (xs : List Code). TypesAll nowhere (in_main_body n) (t.calls o k ++ (two ++ ss))
    (map stated xs) (in_main_body n))
    (sym (append_assoc (p.calls o k) (p.advance l k ∷ p.show (t.onward 9 l) ∷ []) cs))
    (calls_types o n k (two ++ ss) (p.advance l k ∷ p.show (t.onward 9 l) ∷ cs) (omega arith) few
    (st.one_more (st.expression (st.present (advance_full l n k (omega arith) few)))
    (st.one_more (st.expression (st.present (show_full (t.onward 9 l) n))) rest))))

main_types : (o : t.Offsets) (n : ℕ) → n ≤ 64
    → TypesAll nowhere (before_main n) (t.main_body o n) (map stated (p.main_code o n)) (in_main_body n)
main_types o n few =
    st.one_more (st.scalar_declared (ap (λ (m : Option Meaning). is_end (or_else m None)) (find_x n)) (omega arith)
    (st.with_value (ty.number refl, fits _ _ (need_number (o.main 9) 1) refl)))
    (calls_types o.calls n n (t.ended o.ending) (p.ending o.ending) (omega arith) few
    (st.one_more (st.returns_value refl (result_full (t.onward 1 o.ending) n)) st.no_more))

-- behind all functions and main
abbrev whole_file : t.Offsets → ℕ → FileScope
whole_file o n = record {
  names = (bound main_name (meaning.Function (Some Int) [] (Some (callee.Func n)) true) ∷ frame n) ∷ [];
  globals = p.array ∷ [];
  bytes = 128;
  functions = p.functions o.functions n ++ p.main o n ∷ [];
}

main_item : (o : t.Offsets) (n : ℕ) → n ≤ 64 → Item (tree o n) (file o.functions n) (t.main o n).node (whole_file o n)
main_item o n few =
    un.definition {v = in_main_body n} (calls_main o n) (
      un.no_param,
      subst (λ (m : Option Meaning). un.Agrees true (Some Int) [] (or_else m None))
          (sym (find_main n)) un.fresh,
    )
    (un.outermost (main_types o n few))

-- THE UNIT

array_item : (o : t.Offsets) (n : ℕ) → Item (tree o n)
    (record empty_file { names = with_include empty_file.names }) (t.array o.array).node (file o.functions 0)
array_item o n =
    un.global (un.sized (
      constants.number,
      ap (λ (c : Constant). length_in c.kind c.value)
          (value-Number ends (t.number (o.array 3) 16) 16 Int refl),
    )) refl (omega arith) (un.in_list refl un.no_value (omega arith))

items : (o : t.Offsets) (n : ℕ) → n ≤ 64 → Items (tree o n) empty_file (tree o n) (whole_file o n)
items o n few =
    let e : n ≡ 0 + n = omega arith in
    un.one_item (un.include refl un.fresh un.fresh un.fresh)
    (un.one_item (array_item o n)
    (subst (λ (fs : List Top). Items (tree o n) (file o.functions 0) (fs ++ t.main o n ∷ []) (whole_file o n))
    (sym (functions_are o.functions n))
    (items_from o n 0 n (t.main o n ∷ []) (whole_file o n) (omega arith) few
    (subst (λ (m : ℕ). Items (tree o n) (file o.functions m) (t.main o n ∷ []) (whole_file o n)) e
    (un.one_item (main_item o n few) un.no_item)))))

-- the rules accept the tree with the typed program
pub accepted : (o : t.Offsets) (n : ℕ) → n ≤ 64 → Accepts (record { items = tree o n }) (p.program o n)
accepted o n few = un.accepts (items o n few) refl
