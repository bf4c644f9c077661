-- The test for a place holds of places alone.
use Rattle.std.proofs.Common.{◌≡◌, true, false, map, Some, None, refl, sym, ◌∙◌, subst}
use Rattle.std.proofs.lemmas.Bool.{false≢true}
use Rattle.c_tree.specs.declared.tree.Expr.{Expr, Expr-F, ind-Expr, roll-Expr}
use Rattle.c_tree.specs.declared.tree.ExprNode.{ExprNode, roll-ExprNode, map-ExprNode}
use Rattle.c_tree.specs.declared.tree.ExprNode.TheOpen.{ExprNode-F}
use Rattle.c_tree.specs.declared.tree.ExprNode.TheVariants as node
use Rattle.c_type_expr.specs.declared.spot.Spot.{Spot}
use Rattle.c_type_expr.specs.Faults.{is_place}
use Rattle.c_type_expr.specs.Roles.{at, IsPlace, a_name, an_element, in_group}
use Rattle.c_type_expr.proofs.Nodes.{place-Number, place-Name, place-Element, place-Call}
use Rattle.c_type_expr.proofs.Nodes.{place-Group, place-Unary, place-Cast, place-Bump, place-Binary}
use Rattle.c_type_expr.proofs.Nodes.{place-Choice, place-Assign, place-Comma}

-- a place passes the test
pub place_passes : (e : Expr) → IsPlace e → is_place e ≡ true
place_passes _ (a_name {l = l} {w = w}) = place-Name (at l (node.Name w)) w refl
place_passes _ (an_element {l = l} {w = w} r i) =
    place-Element (at l (node.Element w r i)) w r i refl
place_passes _ (in_group {l = l} {e = e} p) =
    place-Group (at l (node.Group e)) e refl ∙ place_passes e p

abbrev Passes : Expr → Type 0
Passes e = is_place e ≡ true → IsPlace e

abbrev PassesNode : ExprNode → Type 0
PassesNode n = (l : Spot) → Passes (at l n)

-- what fails the test is not asked
fails : (e : Expr) → is_place e ≡ false → Passes e
fails e f h = absurd (false≢true (sym f ∙ h))

module _ (N E : Type 0) (node_of : N → ExprNode) (of : E → Expr) (passes : (e : E) → Passes (of e)) where
  at_node : (y : ExprNode-F N E)
      → PassesNode (roll-ExprNode (map-ExprNode N E ExprNode Expr node_of of y))
  at_node (ExprNode-F.Number v k) l = subst (λ n. Passes (at l n)) (sym (node.rolls-Number v k))
      (fails _ (place-Number (at l (node.Number v k)) v k refl))
  at_node (ExprNode-F.Name w) l = subst (λ n. Passes (at l n)) (sym (node.rolls-Name w)) (λ h. a_name)
  at_node (ExprNode-F.Element w None i) l =
      subst (λ n. Passes (at l n)) (sym (node.rolls-Element w None (of i))) (λ h. an_element None (of i))
  at_node (ExprNode-F.Element w (Some x) i) l =
      subst (λ n. Passes (at l n)) (sym (node.rolls-Element w (Some (of x)) (of i)))
      (λ h. an_element (Some (of x)) (of i))
  at_node (ExprNode-F.Call w es) l =
      subst (λ n. Passes (at l n)) (sym (node.rolls-Call w (map of es)))
      (fails _ (place-Call (at l (node.Call w (map of es))) w (map of es) refl))
  at_node (ExprNode-F.Group e) l =
      subst (λ n. Passes (at l n)) (sym (node.rolls-Group (of e)))
      (λ h. in_group (passes e (sym (place-Group (at l (node.Group (of e))) (of e) refl) ∙ h)))
  at_node (ExprNode-F.Unary op e) l =
      subst (λ n. Passes (at l n)) (sym (node.rolls-Unary op (of e)))
      (fails _ (place-Unary (at l (node.Unary op (of e))) op (of e) refl))
  at_node (ExprNode-F.Cast k e) l =
      subst (λ n. Passes (at l n)) (sym (node.rolls-Cast k (of e)))
      (fails _ (place-Cast (at l (node.Cast k (of e))) k (of e) refl))
  at_node (ExprNode-F.Bump op e) l =
      subst (λ n. Passes (at l n)) (sym (node.rolls-Bump op (of e)))
      (fails _ (place-Bump (at l (node.Bump op (of e))) op (of e) refl))
  at_node (ExprNode-F.Binary op x y) l =
      subst (λ n. Passes (at l n)) (sym (node.rolls-Binary op (of x) (of y)))
      (fails _ (place-Binary (at l (node.Binary op (of x) (of y))) op (of x) (of y) refl))
  at_node (ExprNode-F.Choice c x y) l =
      subst (λ n. Passes (at l n)) (sym (node.rolls-Choice (of c) (of x) (of y)))
      (fails _ (place-Choice (at l (node.Choice (of c) (of x) (of y))) (of c) (of x) (of y) refl))
  at_node (ExprNode-F.Assign op x y) l =
      subst (λ n. Passes (at l n)) (sym (node.rolls-Assign op (of x) (of y)))
      (fails _ (place-Assign (at l (node.Assign op (of x) (of y))) op (of x) (of y) refl))
  at_node (ExprNode-F.Comma x y) l =
      subst (λ n. Passes (at l n)) (sym (node.rolls-Comma (of x) (of y)))
      (fails _ (place-Comma (at l (node.Comma (of x) (of y))) (of x) (of y) refl))

-- what passes the test is a place
pub passes_place : (e : Expr) → Passes e
passes_place =
    ind-Expr PassesNode Passes
    (λ x y e. subst (λ (x : ExprNode-F ExprNode Expr). PassesNode (roll-ExprNode x)) e
    (at_node _ _ (λ e'. e'.0) (λ e'. e'.0) (λ s. s.1) y))
    (λ x y e. subst (λ (x : Expr-F ExprNode Expr). Passes (roll-Expr x)) e
    (y.node.1 (record { offset = y.offset; at = y.at })))
