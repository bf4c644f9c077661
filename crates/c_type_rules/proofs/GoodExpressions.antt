-- A fault that the folds find in an expression is its first one in the order of the text.
use Rattle.std.proofs.Common.{ℕ, true, false, List, [], ◌∷◌, map, Option, Some, None, refl, sym, subst, length}
use Rattle.std.specs.Prelude.{is_some}
use Rattle.c_tree.specs.declared.tree.Expr.{Expr, Expr-F, ind-Expr, roll-Expr}
use Rattle.c_tree.specs.declared.tree.ExprNode.{ExprNode, roll-ExprNode, out-roll-ExprNode, map-ExprNode}
use Rattle.c_tree.specs.declared.tree.ExprNode.TheOpen.{ExprNode-F}
use Rattle.c_tree.specs.declared.typed.Slot.{Slot}
use Rattle.c_constant.specs.Constant.{constant, ends, length_of}
use Rattle.c_type_expr.specs.Scope.{Scope, look_up}
use Rattle.c_type_expr.specs.declared.fault.TypeFault.TheVariants.{Mismatch}
use Rattle.c_type_expr.specs.declared.role.Role.{Role}
use Rattle.c_type_expr.specs.declared.role.Role.TheVariants.{Value, Free}
use Rattle.c_type_expr.specs.Blames.{Blame, unless}
use Rattle.c_type_expr.specs.Faults.{unwanted_value, is_place, slots_of, role_at, rest_of, left_role}
use Rattle.c_type_expr.specs.Constants.{calls_known}
use Rattle.c_type_expr.specs.declared.spot.Spot.{Spot}
use Rattle.c_type_expr.specs.Roles.{at}
use Rattle.c_type_rules.specs.Judgements.{Judgement, a_test, an_expression, a_full, an_optional}
use Rattle.c_type_rules.specs.Judgements.{a_constant, a_full_constant, a_size, argument_parts}
use Rattle.c_type_rules.specs.Judgements.{expression_parts, constant_parts}
use Rattle.c_type_rules.proofs.Follows.{follows}
use Rattle.c_type_rules.proofs.FirstFaults.{Good, AllGood, Sane, good_append, good_by, test_good}
use Rattle.c_type_rules.proofs.SaneTests.{sane_unless, sane_value, sane_name, sane_element}
use Rattle.c_type_rules.proofs.SaneTests.{sane_call, sane_named, sane_constant, sane_word, sane_need}

-- good in each role, and as a constant expression
record GoodExpr (e : Expr) : Type 0 where
  asked : (G : Scope) (r : Role) → Good (an_expression G r e)
  fixed : (G : Scope) → Good (a_constant G e)

-- the same of a node at any spot
abbrev GoodNode : ExprNode → Type 0
GoodNode n = (l : Spot) → GoodExpr (at l n)

-- one test, and then no more
last : (b : Blame) → Sane b → AllGood (a_test b ∷ [])
last b s = (test_good b s, tt)

-- whether a value may stand there, and then no more
abbrev value_test : Role → ℕ → List Judgement
value_test r l = a_test (unwanted_value r l) ∷ []

value_last : (r : Role) (l : ℕ) → AllGood (value_test r l)
value_last r l = last (unwanted_value r l) (sane_value r l)

-- whether a left side may be written to, and what comes behind it
place_last : (e : Expr) (l : ℕ) (xs : List Judgement) → AllGood xs
    → AllGood (a_test (unless (is_place e) (Mismatch l)) ∷ xs)
place_last e l xs g = (test_good _ (sane_unless (is_place e) (Mismatch l) tt), g)

module _ (N E : Type 0) (node_of : N → ExprNode) (of : E → Expr) (good : (e : E) → GoodExpr (of e)) where
  arguments_good : (G : Scope) (slots : List Slot) (es : List E) → AllGood (argument_parts G slots (map of es))
  arguments_good G slots [] = tt
  arguments_good G slots (e ∷ es) = ((good e).asked G (role_at slots), arguments_good G (rest_of slots) es)

  constants_good : (G : Scope) (es : List E) → AllGood (map (a_constant G) (map of es))
  constants_good G [] = tt
  constants_good G (e ∷ es) = ((good e).fixed G, constants_good G es)

  each_part : (G : Scope) (r : Role) (l : ℕ) (y : ExprNode-F N E)
      → AllGood (expression_parts G r l (map-ExprNode N E ExprNode Expr node_of of y))
  each_part G r l (ExprNode-F.Number v k) = value_last r l
  each_part G r l (ExprNode-F.Name w) = last _ (sane_name (look_up G w) r l)
  each_part G r l (ExprNode-F.Element w None i) =
      ((good i).asked G Value, last _ (sane_element (look_up G w) false r l))
  each_part G r l (ExprNode-F.Element w (Some x) i) =
      ((good x).asked G Value, ((good i).asked G Value, last _ (sane_element (look_up G w) true r l)))
  each_part G r l (ExprNode-F.Call w es) =
      good_append (argument_parts G (slots_of (look_up G w)) (map of es)) _
      (arguments_good G (slots_of (look_up G w)) es)
      (last _ (sane_call (look_up G w) (length (map of es)) r l))
  each_part G r l (ExprNode-F.Group e) = ((good e).asked G r, tt)
  each_part G r l (ExprNode-F.Unary op e) = ((good e).asked G Value, value_last r l)
  each_part G r l (ExprNode-F.Cast k e) = ((good e).asked G Value, value_last r l)
  each_part G r l (ExprNode-F.Bump op e) =
      ((good e).asked G (left_role (is_place (of e))), place_last (of e) l (value_test r l) (value_last r l))
  each_part G r l (ExprNode-F.Binary op x y) =
      ((good x).asked G Value, ((good y).asked G Value, value_last r l))
  each_part G r l (ExprNode-F.Choice t x y) =
      ((good t).asked G Value, ((good x).asked G Value, ((good y).asked G Value, value_last r l)))
  each_part G r l (ExprNode-F.Assign op x y) = (
    (good x).asked G (left_role (is_place (of x))),
    ((good y).asked G Value, place_last (of x) l (value_test r l) (value_last r l)),
  )
  each_part G r l (ExprNode-F.Comma x y) =
      ((good x).asked G Free, ((good y).asked G Value, value_last r l))

  each_constant : (G : Scope) (l : ℕ) (y : ExprNode-F N E)
      → AllGood (constant_parts G l (map-ExprNode N E ExprNode Expr node_of of y))
  each_constant G l (ExprNode-F.Number v k) = tt
  each_constant G l (ExprNode-F.Name w) = last _ (sane_named (look_up G w) l)
  each_constant G l (ExprNode-F.Element w None i) =
      ((good i).fixed G, last _ (sane_constant (is_some (look_up G w)) l))
  each_constant G l (ExprNode-F.Element w (Some x) i) =
      ((good x).fixed G, ((good i).fixed G, last _ (sane_constant (is_some (look_up G w)) l)))
  each_constant G l (ExprNode-F.Call w es) =
      good_append (map (a_constant G) (map of es)) _ (constants_good G es)
      (last _ (sane_constant (calls_known (look_up G w)) l))
  each_constant G l (ExprNode-F.Group e) = ((good e).fixed G, tt)
  each_constant G l (ExprNode-F.Unary op e) = ((good e).fixed G, tt)
  each_constant G l (ExprNode-F.Cast k e) = ((good e).fixed G, tt)
  each_constant G l (ExprNode-F.Bump op e) = ((good e).fixed G, last _ tt)
  each_constant G l (ExprNode-F.Binary op x y) = ((good x).fixed G, ((good y).fixed G, tt))
  each_constant G l (ExprNode-F.Choice t x y) =
      ((good t).fixed G, ((good x).fixed G, ((good y).fixed G, tt)))
  each_constant G l (ExprNode-F.Assign op x y) = ((good x).fixed G, ((good y).fixed G, last _ tt))
  each_constant G l (ExprNode-F.Comma x y) = ((good x).fixed G, ((good y).fixed G, last _ tt))

  at_node : (y : ExprNode-F N E)
      → GoodNode (roll-ExprNode (map-ExprNode N E ExprNode Expr node_of of y))
  at_node y l =
      let x = map-ExprNode N E ExprNode Expr node_of of y in
      let e = at l (roll-ExprNode x) in
      record {
        asked = λ G r. good_by (an_expression G r e) (follows (an_expression G r e))
            (subst (λ x. AllGood (expression_parts G r l.offset x)) (sym (out-roll-ExprNode x))
            (each_part G r l.offset y));
        fixed = λ G. good_by (a_constant G e) (follows (a_constant G e))
            (subst (λ x. AllGood (constant_parts G l.offset x)) (sym (out-roll-ExprNode x))
            (each_constant G l.offset y));
      }

good_expr : (e : Expr) → GoodExpr e
good_expr =
    ind-Expr GoodNode GoodExpr
    (λ x y e. subst (λ (x : ExprNode-F ExprNode Expr). GoodNode (roll-ExprNode x)) e
    (at_node _ _ (λ e'. e'.0) (λ e'. e'.0) (λ s. s.1) y))
    (λ x y e. subst (λ (x : Expr-F ExprNode Expr). GoodExpr (roll-Expr x)) e
    (y.node.1 (record { offset = y.offset; at = y.at })))

-- a full expression, one that may be left out, a constant expression and a size are good
pub full_good : (G : Scope) (r : Role) (e : Expr) → Good (a_full G r e)
full_good G r e = good_by (a_full G r e) refl ((good_expr e).asked G r, last _ (sane_need e))

-- the judgement of an optional expression is good
pub optional_good : (G : Scope) (r : Role) (e : Option Expr) → Good (an_optional G r e)
optional_good G r None = good_by (an_optional G r None) refl tt
optional_good G r (Some e) = good_by (an_optional G r (Some e)) refl (full_good G r e, tt)

-- the judgement of a full constant expression is good
pub full_constant_good : (G : Scope) (e : Expr) → Good (a_full_constant G e)
full_constant_good G e =
    good_by (a_full_constant G e) refl
    ((good_expr e).fixed G, (test_good _ (sane_word (constant ends e).value e.offset), last _ (sane_need e)))

-- the judgement of an array's size is good
pub size_good : (G : Scope) (e : Expr) → Good (a_size G e)
size_good G e = good_by (a_size G e) refl ((good_expr e).fixed G, last _ (sane_word (length_of e) e.offset))
