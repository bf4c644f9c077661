-- A fault that the folds find in a statement or a unit is its first one in the order of the text.
use Rattle.std.proofs.Common.{ℕ, Bool, true, false, List, [], ◌∷◌, ◌++◌, map, Option, Some, None}
use Rattle.std.proofs.Common.{refl, sym, subst, length}
use Rattle.std.specs.Prelude.{nat_lt}
use Rattle.c_tree.specs.declared.token.Kind.{Kind}
use Rattle.c_tree.specs.declared.tree.ArraySize.{ArraySize}
use Rattle.c_tree.specs.declared.tree.ArraySize.TheVariants as size
use Rattle.c_tree.specs.declared.tree.Expr.{Expr}
use Rattle.c_tree.specs.declared.tree.ForInit.{ForInit, roll-ForInit, out-roll-ForInit, map-ForInit}
use Rattle.c_tree.specs.declared.tree.ForInit.TheOpen.{StmtNode-F, ForInit-F, Section-F}
use Rattle.c_tree.specs.declared.tree.Label.{Label}
use Rattle.c_tree.specs.declared.tree.Param.{Param}
use Rattle.c_tree.specs.declared.tree.Program.{Program}
use Rattle.c_tree.specs.declared.tree.Section.{Section, roll-Section, out-roll-Section, map-Section}
use Rattle.c_type.specs.Statements.{labels_in, statements_in, part, beginning_of, all_after, switch_kind, label_word}
use Rattle.c_tree.specs.declared.tree.Stmt.{Stmt, Stmt-F, roll-Stmt, ind-Stmt}
use Rattle.c_tree.specs.declared.tree.StmtNode.{StmtNode, out-StmtNode, roll-StmtNode, out-roll-StmtNode, map-StmtNode}
use Rattle.c_tree.specs.declared.tree.Top.{Top}
use Rattle.c_tree.specs.declared.tree.TopNode.{TopNode}
use Rattle.c_tree.specs.declared.tree.TopNode.TheVariants.{Include, Global, Func}
use Rattle.c_type_expr.specs.Scope.{Scope, look_up}
use Rattle.c_type_expr.specs.declared.fault.TypeFault.TheVariants.{Twice, Mismatch, NoMain}
use Rattle.c_type_expr.specs.declared.fault.TypeFault.TheVariants.{TooManyScalars, TooManyParams}
use Rattle.c_type_expr.specs.declared.role.Role.TheVariants.{Value, Free}
use Rattle.c_type.specs.declared.file_scope.FileScope.{FileScope}
use Rattle.c_type.specs.declared.state.State.{State}
use Rattle.c_type.specs.declared.state.Around.{Around}
use Rattle.c_type.specs.States.{at, entered, with_scalar, with_switch, nowhere, in_loop, in_switch}
use Rattle.c_type.specs.Declarations.{extent}
use Rattle.c_type.specs.Units.{count_of}
use Rattle.c_type.specs.FileScopes.{global_names, all_values, empty_file}
use Rattle.c_type.specs.Functions.{entry}
use Rattle.c_type.specs.States.{slot_of, with_params, started}
use Rattle.c_type.specs.Programs.{table, item_after}
use Rattle.c_type_rules.specs.Judgements.{a_statement, some_statements, an_else, a_beginning}
use Rattle.c_type_rules.specs.Judgements.{some_labels, some_sections, a_body, a_param, some_params, some_values}
use Rattle.c_type_rules.specs.Judgements.{an_item}
use Rattle.c_type_rules.specs.Judgements.{some_items, a_unit}
use Rattle.c_type_rules.specs.Order.{declare_parts, statement_parts, beginning_parts, body_parts}
use Rattle.c_type_rules.specs.Order.{value_parts, global_parts, item_parts, row_parts, case_parts}
use Rattle.c_type_rules.proofs.Follows.{follows}
use Rattle.c_type_rules.proofs.FirstFaults.{Good, AllGood, good_append, good_by, test_good}
use Rattle.c_type_rules.proofs.SaneTests.{sane_unless, sane_scalar, sane_array, sane_init}
use Rattle.c_type_rules.proofs.SaneTests.{sane_return, sane_param, sane_function, sane_include}
use Rattle.c_type_rules.proofs.SaneTests.{sane_place, sane_row_bytes}
use Rattle.c_type_rules.proofs.GoodExpressions.{full_good, optional_good, full_constant_good, size_good}

-- STATEMENTS

declare_good : (s : ArraySize) (k : Kind) (w : List ℕ) (init : Option Expr) (l : ℕ) (v : State)
    → AllGood (declare_parts s k w init l v)
declare_good size.Scalar k w init l v =
    (test_good _ (sane_scalar w l v), (optional_good (with_scalar k w v).names Value init, tt))
declare_good size.Open k w init l v = (test_good _ tt, tt)
declare_good (size.Sized e) k w init l v = (
  size_good v.names e,
  (
    test_good _ (sane_array (extent (size.Sized e)) k w l v.names),
    (test_good _ (sane_init init l), tt),
  ),
)
declare_good (size.Rows None e) k w init l v = (test_good _ tt, tt)
declare_good (size.Rows (Some r) e) k w init l v = (
  size_good v.names r,
  (
    size_good v.names e,
    (
      test_good _ (sane_array (extent (size.Rows (Some r) e)) k w l v.names),
      (test_good _ (sane_init init l), tt),
    ),
  ),
)

-- the constant of a label, if it has one, is good, and so are labels
case_good : (G : Scope) (o : Option Expr) → AllGood (case_parts G o)
case_good G None = tt
case_good G (Some e) = (full_constant_good G e, tt)

labels_good : (G : Scope) (k : Kind) (seen : List (Option ℕ)) (ls : List Label) → Good (some_labels G k seen ls)
labels_good G k seen [] = good_by (some_labels G k seen []) refl tt
labels_good G k seen (x ∷ xs) =
    good_by (some_labels G k seen (x ∷ xs)) (follows (some_labels G k seen (x ∷ xs)))
    (good_append (case_parts G x.value) _ (case_good G x.value)
    (test_good _ (sane_unless _ (Twice x.offset) tt), (labels_good G k (seen ++ label_word k x ∷ []) xs, tt)))

-- good in each state
abbrev GoodStmt : Stmt → Type 0
GoodStmt s = (b : Around) (v : State) → Good (a_statement b v s)

abbrev GoodNode : StmtNode → Type 0
GoodNode n = (l : ℕ) → GoodStmt (at l n)

abbrev GoodFirst : ForInit → Type 0
GoodFirst i = (b : Around) (v : State) → Good (a_beginning b v i)

-- the statements of a section are good in each state
abbrev GoodSection : Section → Type 0
GoodSection x = (b : Around) (v : State) → Good (some_statements b v (statements_in x))

module _ (I N X S : Type 0) (of_i : I → ForInit) (of_n : N → StmtNode) (of_x : X → Section) (of_s : S → Stmt)
    (good_i : (i : I) → GoodFirst (of_i i)) (good_x : (x : X) → GoodSection (of_x x))
    (good_s : (s : S) → GoodStmt (of_s s)) where
  several_good : (b : Around) (v : State) (ss : List S) → Good (some_statements b v (map of_s ss))
  several_good b v [] = good_by (some_statements b v []) refl tt
  several_good b v (s ∷ ss) =
      good_by (some_statements b v (map of_s (s ∷ ss))) refl
      (good_s s b v, (several_good b ((part (of_s s)).after v) ss, tt))

  sections_good : (k : Kind) (seen : List (Option ℕ)) (b : Around) (v : State) (xs : List X)
      → Good (some_sections k seen b v (map of_x xs))
  sections_good k seen b v [] = good_by (some_sections k seen b v []) refl tt
  sections_good k seen b v (x ∷ xs) =
      let s = of_x x in
      good_by (some_sections k seen b v (map of_x (x ∷ xs)))
      (follows (some_sections k seen b v (map of_x (x ∷ xs)))) (
        labels_good v.names k seen (labels_in s),
        (
          good_x x b v,
          (
            sections_good k (seen ++ map (label_word k) (labels_in s)) b
                (all_after (map part (statements_in s)) v) xs,
            tt,
          ),
        ),
      )

  each_part : (b : Around) (v : State) (l : ℕ) (y : StmtNode-F I N X S)
      → AllGood (statement_parts b v l (map-StmtNode I N X S ForInit StmtNode Section Stmt of_i of_n of_x of_s y))
  each_part b v l (StmtNode-F.Declare k w s init) = declare_good s k w init l v
  each_part b v l (StmtNode-F.Plain e) = (optional_good v.names Free e, tt)
  each_part b v l (StmtNode-F.Compound ss) = (several_good b (entered v) ss, tt)
  each_part b v l (StmtNode-F.If c s None) =
      (full_good v.names Value c, (good_s s b v, (good_by (an_else b ((part (of_s s)).after v) None) refl tt, tt)))
  each_part b v l (StmtNode-F.If c s (Some o)) =
      let w = (part (of_s s)).after v in
      (full_good v.names Value c, (good_s s b v, (good_by (an_else b w (Some (of_s o))) refl (good_s o b w, tt), tt)))
  each_part b v l (StmtNode-F.While c s) = (full_good v.names Value c, (good_s s in_loop v, tt))
  each_part b v l (StmtNode-F.Do s c) =
      (good_s s in_loop v, (full_good ((part (of_s s)).after v).names Value c, tt))
  each_part b v l (StmtNode-F.For init c p s) =
      let w = (beginning_of (of_i init)).after (entered v) in (
        good_i init b (entered v),
        (optional_good w.names Value c, (optional_good w.names Free p, (good_s s in_loop w, tt))),
      )
  each_part b v l (StmtNode-F.Switch c xs) =
      let k = switch_kind c v.names in (
        full_good v.names Value c,
        (
          test_good _ (sane_unless (nat_lt (length v.scalars) 64) (TooManyScalars l) tt),
          (sections_good k [] (in_switch b) (with_switch k v) xs, tt),
        ),
      )
  each_part b v l StmtNode-F.Break = (test_good _ (sane_unless b.may_break (Mismatch l) tt), tt)
  each_part b v l StmtNode-F.Continue = (test_good _ (sane_unless b.may_continue (Mismatch l) tt), tt)
  each_part b v l (StmtNode-F.Return e) =
      (optional_good v.names Value e, (test_good _ (sane_return v.result e l), tt))

  each_first : (b : Around) (v : State) (y : ForInit-F I N X S)
      → AllGood (beginning_parts b v (map-ForInit I N X S ForInit StmtNode Section Stmt of_i of_n of_x of_s y))
  each_first b v ForInit-F.Nothing = tt
  each_first b v (ForInit-F.First e) = (full_good v.names Free e, tt)
  each_first b v (ForInit-F.Locals ss) = (several_good b v ss, tt)

  at_node : (y : StmtNode-F I N X S)
      → GoodNode (roll-StmtNode (map-StmtNode I N X S ForInit StmtNode Section Stmt of_i of_n of_x of_s y))
  at_node y l b v =
      let x = map-StmtNode I N X S ForInit StmtNode Section Stmt of_i of_n of_x of_s y in
      let s = at l (roll-StmtNode x) in
      good_by (a_statement b v s) (follows (a_statement b v s))
      (subst (λ x. AllGood (statement_parts b v l x)) (sym (out-roll-StmtNode x)) (each_part b v l y))

  at_first : (y : ForInit-F I N X S)
      → GoodFirst (roll-ForInit (map-ForInit I N X S ForInit StmtNode Section Stmt of_i of_n of_x of_s y))
  at_first y b v =
      let x = map-ForInit I N X S ForInit StmtNode Section Stmt of_i of_n of_x of_s y in
      let i = roll-ForInit x in
      good_by (a_beginning b v i) (follows (a_beginning b v i))
      (subst (λ x. AllGood (beginning_parts b v x)) (sym (out-roll-ForInit x)) (each_first b v y))

  at_section : (y : Section-F I N X S)
      → GoodSection (roll-Section (map-Section I N X S ForInit StmtNode Section Stmt of_i of_n of_x of_s y))
  at_section y =
      subst (λ (x : Section-F ForInit StmtNode Section Stmt). (b : Around) (v : State)
      → Good (some_statements b v x.body))
      (sym (out-roll-Section (map-Section I N X S ForInit StmtNode Section Stmt of_i of_n of_x of_s y)))
      (λ b v. several_good b v y.body)

good_stmt : (s : Stmt) → GoodStmt s
good_stmt =
    ind-Stmt GoodFirst GoodNode GoodSection GoodStmt
    (λ x y e. subst (λ (x : ForInit-F ForInit StmtNode Section Stmt). GoodFirst (roll-ForInit x)) e
    (at_first _ _ _ _ (λ i. i.0) (λ n. n.0) (λ x. x.0) (λ s. s.0) (λ i. i.1) (λ x. x.1) (λ s. s.1) y))
    (λ x y e. subst (λ (x : StmtNode-F ForInit StmtNode Section Stmt). GoodNode (roll-StmtNode x)) e
    (at_node _ _ _ _ (λ i. i.0) (λ n. n.0) (λ x. x.0) (λ s. s.0) (λ i. i.1) (λ x. x.1) (λ s. s.1) y))
    (λ x y e. subst (λ (x : Section-F ForInit StmtNode Section Stmt). GoodSection (roll-Section x)) e
    (at_section _ _ _ _ (λ i. i.0) (λ n. n.0) (λ x. x.0) (λ s. s.0) (λ i. i.1) (λ x. x.1) (λ s. s.1) y))
    (λ x y e. subst (λ (x : Stmt-F ForInit StmtNode Section Stmt). GoodStmt (roll-Stmt x)) e (y.node.1 y.offset))

good_stmts : (b : Around) (v : State) (ss : List Stmt) → Good (some_statements b v ss)
good_stmts b v [] = good_by (some_statements b v []) refl tt
good_stmts b v (s ∷ ss) =
    good_by (some_statements b v (s ∷ ss)) refl (good_stmt s b v, (good_stmts b ((part s).after v) ss, tt))

-- UNITS

body_each : (v : State) (s : Stmt) (x : StmtNode-F ForInit StmtNode Section Stmt) → AllGood (body_parts v s x)
body_each v s (StmtNode-F.Compound ss) = (good_stmts nowhere v ss, tt)
body_each v s _ = (good_stmt s nowhere v, tt)

body_good : (v : State) (s : Stmt) → Good (a_body v s)
body_good v s = good_by (a_body v s) (follows (a_body v s)) (body_each v s (out-StmtNode s.node))

row_good : (G : Scope) (seen : List Param) (s : ArraySize) → AllGood (row_parts s G seen)
row_good G seen size.Scalar = tt
row_good G seen size.Open = tt
row_good G seen (size.Sized e) = tt
row_good G seen (size.Rows o e) = (size_good (with_params seen (started G None)).names e, tt)

param_good : (d : Bool) (G : Scope) (seen : List Param) (p : Param) → Good (a_param d G seen p)
param_good d G seen p =
    good_by (a_param d G seen p) (follows (a_param d G seen p))
    (good_append (row_parts p.size G seen) _ (row_good G seen p.size) (
      test_good _ (sane_param d G seen p.name p.offset),
      (
        test_good _ (sane_unless (nat_lt (length seen) 8) (TooManyParams p.offset) tt),
        (test_good _ (sane_row_bytes p.size p.kind p.offset), tt),
      ),
    ))

params_good : (d : Bool) (G : Scope) (seen ps : List Param) → Good (some_params d G seen ps)
params_good d G seen [] = good_by (some_params d G seen []) refl tt
params_good d G seen (p ∷ ps) =
    good_by (some_params d G seen (p ∷ ps)) refl (param_good d G seen p, (params_good d G (seen ++ p ∷ []) ps, tt))

values_good : (G : Scope) (k : Kind) (es : List Expr) → Good (some_values G k es)
values_good G k [] = good_by (some_values G k []) refl tt
values_good G k (e ∷ es) =
    good_by (some_values G k (e ∷ es)) refl (full_constant_good G e, (values_good G k es, tt))

value_each : (s : ArraySize) (k : Kind) (w : List ℕ) (init : List (List Expr)) (l : ℕ) (U : FileScope)
    → AllGood (value_parts s k w init l U)
value_each s k w init l U = (
  test_good _ (sane_place (count_of s init) k w l U),
  (values_good (global_names s k w U) k (all_values init), (test_good _ (sane_unless _ (Mismatch l) tt), tt)),
)

global_each : (s : ArraySize) (k : Kind) (w : List ℕ) (init : List (List Expr)) (l : ℕ) (U : FileScope)
    → AllGood (global_parts s k w init l U)
global_each size.Scalar k w init l U = value_each size.Scalar k w init l U
global_each size.Open k w init l U = (
  test_good _ (sane_unless (nat_lt 0 (length (all_values init))) (Mismatch l) tt),
  value_each size.Open k w init l U,
)
global_each (size.Sized e) k w init l U = (size_good U.names e, value_each (size.Sized e) k w init l U)
global_each (size.Rows None e) k w init l U = (
  size_good U.names e,
  (test_good _ (sane_unless (nat_lt 0 (length init)) (Mismatch l) tt), value_each (size.Rows None e) k w init l U),
)
global_each (size.Rows (Some r) e) k w init l U =
    (size_good U.names r, (size_good U.names e, value_each (size.Rows (Some r) e) k w init l U))

item_each : (unit : List Top) (U : FileScope) (l : ℕ) (n : TopNode) → AllGood (item_parts unit U l n)
item_each unit U l Include = (test_good _ (sane_include U.names l), tt)
item_each unit U l (Global k w s init) = global_each s k w init l U
item_each unit U l (Func given w params None) = (
  params_good false U.names [] params,
  (test_good _ (sane_function false given (map slot_of params) (look_up U.names w) l), tt),
)
item_each unit U l (Func given w params (Some s)) = (
  params_good true U.names [] params,
  (
    test_good _ (sane_function true given (map slot_of params) (look_up U.names w) l),
    (body_good (entry (table unit) w given params U.names) s, tt),
  ),
)

items_good : (unit : List Top) (U : FileScope) (ts : List Top) → Good (some_items unit U ts)
items_good unit U [] = good_by (some_items unit U []) refl tt
items_good unit U (t ∷ ts) =
    good_by (some_items unit U (t ∷ ts)) refl (
      good_by (an_item unit U t) (follows (an_item unit U t)) (item_each unit U t.offset t.node),
      (items_good unit (item_after (table unit) t U) ts, tt),
    )

-- the fault that the folds find in a unit is its first one
pub unit_good : (p : Program) → Good (a_unit p)
unit_good p =
    good_by (a_unit p) refl (items_good p.items empty_file p.items, (test_good _ (sane_unless _ NoMain tt), tt))
