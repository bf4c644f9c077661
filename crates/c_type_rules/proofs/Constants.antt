-- A constant expression is one of which no part is the first that is none.
use Rattle.std.proofs.Common.{◌≡◌, ℕ, Bool, true, false, map, Option, Some, None, refl, sym, ap, ◌∙◌, subst}
use Rattle.std.specs.Prelude.{is_some}
use Rattle.std.proofs.lemmas.Bool.{false≢true}
use Rattle.c_tree.specs.declared.tree.Expr.{Expr, Expr-F, ind-Expr, roll-Expr}
use Rattle.c_tree.specs.declared.tree.ExprNode.{ExprNode, roll-ExprNode, map-ExprNode}
use Rattle.c_tree.specs.declared.tree.ExprNode.TheOpen.{ExprNode-F}
use Rattle.c_tree.specs.declared.tree.ExprNode.TheVariants as node
use Rattle.c_type_expr.specs.declared.meaning.Meaning.{Meaning}
use Rattle.c_type_expr.specs.declared.meaning.Meaning.TheVariants as meaning
use Rattle.c_type_expr.specs.Scope.{Scope, look_up}
use Rattle.c_type_expr.specs.declared.fault.TypeFault.TheVariants.{Mismatch}
use Rattle.c_type_expr.specs.Blames.{Blame, first, unless}
use Rattle.c_type_expr.specs.Constants.{not_fixed, name_fixed, no_constant, calls_known}
use Rattle.c_type_expr.specs.declared.spot.Spot.{Spot}
use Rattle.c_type_expr.specs.Roles.{at}
use Rattle.c_type_expr.proofs.Fixed.{fixed-Number, fixed-Name, fixed-Element, fixed-Call}
use Rattle.c_type_expr.proofs.Fixed.{fixed-Group, fixed-Unary, fixed-Cast, fixed-Bump, fixed-Binary}
use Rattle.c_type_expr.proofs.Fixed.{fixed-Choice, fixed-Assign, fixed-Comma}
use Rattle.c_type_rules.specs.Constants.{IsConstant, number, ending, group, operator, conversion}
use Rattle.c_type_rules.specs.Constants.{operation, choice}

-- two parts without a fault
both : (f g : Blame) → f ≡ None → g ≡ None → first f g ≡ None
both f g p q = ap (λ (f : Blame). first f g) p ∙ q

split : (f g : Blame) → first f g ≡ None → (f ≡ None) × (g ≡ None)
split None g e = (refl, e)
split (Some f) g e = absurd (cc)

held : (b : Bool) (l : ℕ) → unless b (Mismatch l) ≡ None → b ≡ true
held true l e = refl
held false l e = absurd (cc)

-- no part of a constant expression is none
pub constant_fine : (G : Scope) (e : Expr) → IsConstant G e → not_fixed e G ≡ None
constant_fine G _ (number {l = l} {v = v} {k = k}) = fixed-Number (at l (node.Number v k)) G v k refl
constant_fine G _ (ending {l = l} {w = w} h) =
    fixed-Name (at l (node.Name w)) G w refl ∙ ap (λ m. name_fixed m l.offset) h
constant_fine G _ (group {l = l} {e = e} d) = fixed-Group (at l (node.Group e)) G e refl ∙ constant_fine G e d
constant_fine G _ (operator {l = l} {op = op} {e = e} d) =
    fixed-Unary (at l (node.Unary op e)) G op e refl ∙ constant_fine G e d
constant_fine G _ (conversion {l = l} {k = k} {e = e} d) =
    fixed-Cast (at l (node.Cast k e)) G k e refl ∙ constant_fine G e d
constant_fine G _ (operation {l = l} {op = op} {x = x} {y = y} d d') =
    fixed-Binary (at l (node.Binary op x y)) G op x y refl ∙ both _ _ (constant_fine G x d) (constant_fine G y d')
constant_fine G _ (choice {l = l} {c = c} {x = x} {y = y} d d1 d2) =
    fixed-Choice (at l (node.Choice c x y)) G c x y refl
    ∙ both _ _ (constant_fine G c d) (both _ _ (constant_fine G x d1) (constant_fine G y d2))

abbrev Whole : Expr → Type 0
Whole e = (G : Scope) → not_fixed e G ≡ None → IsConstant G e

abbrev WholeNode : ExprNode → Type 0
WholeNode n = (l : Spot) → Whole (at l n)

-- a name that is a constant is that of `EOF`
is_ending : (m : Option Meaning) (l : ℕ) → name_fixed m l ≡ None → m ≡ Some meaning.EndOfFile
is_ending None l h = absurd (cc)
is_ending (Some meaning.EndOfFile) l h = refl
is_ending (Some (meaning.Scalar k p)) l h = absurd (false≢true (held false l h))
is_ending (Some (meaning.Array k q p)) l h = absurd (false≢true (held false l h))
is_ending (Some (meaning.Function g ps c d)) l h = absurd (false≢true (held false l h))

-- another name is none, known or not
no_name : (b : Bool) (l : ℕ) → no_constant b l ≡ None → false ≡ true
no_name true l h = held false l h
no_name false l h = absurd (cc)

module _ (N E : Type 0) (node_of : N → ExprNode) (of : E → Expr) (whole : (e : E) → Whole (of e)) where
  at_node : (y : ExprNode-F N E) → WholeNode (roll-ExprNode (map-ExprNode N E ExprNode Expr node_of of y))
  at_node (ExprNode-F.Number v k) l = subst (λ n. Whole (at l n)) (sym (node.rolls-Number v k)) (λ G h. number)
  at_node (ExprNode-F.Name w) l =
      subst (λ n. Whole (at l n)) (sym (node.rolls-Name w))
      (λ G h. ending (is_ending (look_up G w) l.offset (sym (fixed-Name (at l (node.Name w)) G w refl) ∙ h)))
  at_node (ExprNode-F.Element w None i) l =
      subst (λ n. Whole (at l n)) (sym (node.rolls-Element w None (of i)))
      (λ G h. absurd (false≢true (no_name (is_some (look_up G w)) l.offset
      (split _ _ (sym (fixed-Element (at l (node.Element w None (of i))) G w None (of i) refl) ∙ h)).1)))
  at_node (ExprNode-F.Element w (Some x) i) l =
      subst (λ n. Whole (at l n)) (sym (node.rolls-Element w (Some (of x)) (of i)))
      (λ G h. absurd (false≢true (no_name (is_some (look_up G w)) l.offset
      (split _ _ (split _ _ (sym (fixed-Element (at l (node.Element w (Some (of x)) (of i))) G w (Some (of x)) (of i)
      refl) ∙ h)).1).1)))
  at_node (ExprNode-F.Call w es) l =
      subst (λ n. Whole (at l n)) (sym (node.rolls-Call w (map of es)))
      (λ G h. absurd (false≢true (no_name (calls_known (look_up G w)) l.offset
      (split _ _ (sym (fixed-Call (at l (node.Call w (map of es))) G w (map of es) refl) ∙ h)).1)))
  at_node (ExprNode-F.Group e) l =
      subst (λ n. Whole (at l n)) (sym (node.rolls-Group (of e)))
      (λ G h. group (whole e G (sym (fixed-Group (at l (node.Group (of e))) G (of e) refl) ∙ h)))
  at_node (ExprNode-F.Unary op e) l =
      subst (λ n. Whole (at l n)) (sym (node.rolls-Unary op (of e)))
      (λ G h. operator (whole e G (sym (fixed-Unary (at l (node.Unary op (of e))) G op (of e) refl) ∙ h)))
  at_node (ExprNode-F.Cast k e) l =
      subst (λ n. Whole (at l n)) (sym (node.rolls-Cast k (of e)))
      (λ G h. conversion (whole e G (sym (fixed-Cast (at l (node.Cast k (of e))) G k (of e) refl) ∙ h)))
  at_node (ExprNode-F.Bump op e) l =
      subst (λ n. Whole (at l n)) (sym (node.rolls-Bump op (of e)))
      (λ G h. absurd (false≢true (held false l.offset
      (split _ _ (sym (fixed-Bump (at l (node.Bump op (of e))) G op (of e) refl) ∙ h)).1)))
  at_node (ExprNode-F.Binary op x y) l =
      subst (λ n. Whole (at l n)) (sym (node.rolls-Binary op (of x) (of y)))
      (λ G h. let q = split _ _ (sym (fixed-Binary (at l (node.Binary op (of x) (of y))) G op (of x) (of y) refl) ∙ h)
      in
      operation (whole x G q.0) (whole y G q.1))
  at_node (ExprNode-F.Choice c x y) l =
      subst (λ n. Whole (at l n)) (sym (node.rolls-Choice (of c) (of x) (of y)))
      (λ G h. let q = split _ _ (sym (fixed-Choice (at l (node.Choice (of c) (of x) (of y))) G (of c) (of x) (of y)
      refl) ∙ h) in
      let r = split _ _ q.1 in choice (whole c G q.0) (whole x G r.0) (whole y G r.1))
  at_node (ExprNode-F.Assign op x y) l =
      subst (λ n. Whole (at l n)) (sym (node.rolls-Assign op (of x) (of y)))
      (λ G h. let q = split _ _ (sym (fixed-Assign (at l (node.Assign op (of x) (of y))) G op (of x) (of y) refl) ∙ h)
      in
      absurd (false≢true (held false l.offset (split _ _ q.1).1)))
  at_node (ExprNode-F.Comma x y) l =
      subst (λ n. Whole (at l n)) (sym (node.rolls-Comma (of x) (of y)))
      (λ G h. let q = split _ _ (sym (fixed-Comma (at l (node.Comma (of x) (of y))) G (of x) (of y) refl) ∙ h) in
      absurd (false≢true (held false l.offset (split _ _ q.1).1)))

-- an expression of which no part is none is a constant expression
pub constant_typed : (e : Expr) → Whole e
constant_typed =
    ind-Expr WholeNode Whole
    (λ x y e. subst (λ (x : ExprNode-F ExprNode Expr). WholeNode (roll-ExprNode x)) e
    (at_node _ _ (λ e'. e'.0) (λ e'. e'.0) (λ s. s.1) y))
    (λ x y e. subst (λ (x : Expr-F ExprNode Expr). Whole (roll-Expr x)) e
    (y.node.1 (record { offset = y.offset; at = y.at })))
