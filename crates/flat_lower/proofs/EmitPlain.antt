-- Expressions that set no scalar at once.
use Rattle.std.proofs.Common.{◌≡◌, ℕ, Option, Some, None, refl, sym, ap, ◌∙◌}
use Rattle.c_tree.specs.declared.Kind.{Kind}
use Rattle.c_tree.specs.declared.BinaryOp.{BinaryOp}
use Rattle.c_tree.specs.declared.Place.{Place}
use Rattle.c_tree.specs.declared.TypedExpr.{TypedExpr}
use Rattle.c_tree.specs.declared.TypedNode.{TypedNode, roll-TypedNode, out-TypedNode}
use Rattle.c_tree.specs.declared.TypedNode.{roll-out-TypedNode}
use Rattle.c_tree.specs.declared.TypedNode.TheVariants as node
use Rattle.c_tree.specs.declared.TypedNode.TheOpen.{TypedNode-F}
use Rattle.flat_lower.specs.inside.TreeViews.{expr_of}
use Rattle.flat_lower.specs.inside.Objects.{Context}
use Rattle.flat_lower.specs.inside.Expressions.{expr_code}
use Rattle.flat_lower.specs.inside.Statements.{named_scalar, simple_arg, plain_code}
use Rattle.flat_lower.proofs.EmitTrees.{level, by_out}

module _ (f : TypedExpr) where
  module _ (no_name : (p : Place) → f.node ≡ node.Name p → ⊥) where
    unnamed_at : (k : Option Kind) (x : TypedNode-F TypedNode TypedExpr) → roll-TypedNode x ≡ f.node
        → named_scalar (level x k) ≡ None
    unnamed_at k (TypedNode-F.Name p) e = absurd (no_name p (sym e ∙ node.rolls-Name p))
    unnamed_at k (TypedNode-F.Number w) e = refl
    unnamed_at k (TypedNode-F.Element p None i) e = refl
    unnamed_at k (TypedNode-F.Element p (Some r) i) e = refl
    unnamed_at k (TypedNode-F.Call g args) e = refl
    unnamed_at k (TypedNode-F.Unary op a) e = refl
    unnamed_at k (TypedNode-F.Cast to a) e = refl
    unnamed_at k (TypedNode-F.Convert to a) e = refl
    unnamed_at k (TypedNode-F.Bump op a) e = refl
    unnamed_at k (TypedNode-F.Binary op l r) e = refl
    unnamed_at k (TypedNode-F.Choice t y n) e = refl
    unnamed_at k (TypedNode-F.Assign op a l r) e = refl
    unnamed_at k (TypedNode-F.Comma l r) e = refl

    -- what is no name names no scalar
    pub unnamed : None ≡ named_scalar (expr_of f)
    unnamed = sym (ap named_scalar (by_out f)
        ∙ unnamed_at f.kind (out-TypedNode f.node) (roll-out-TypedNode f.node))

    module _ (no_number : (w : ℕ) → f.node ≡ node.Number w → ⊥) where
      complex_at : (k : Option Kind) (x : TypedNode-F TypedNode TypedExpr)
          → roll-TypedNode x ≡ f.node → simple_arg (level x k) ≡ None
      complex_at k (TypedNode-F.Name p) e = absurd (no_name p (sym e ∙ node.rolls-Name p))
      complex_at k (TypedNode-F.Number w) e = absurd (no_number w (sym e ∙ node.rolls-Number w))
      complex_at k (TypedNode-F.Element p None i) e = refl
      complex_at k (TypedNode-F.Element p (Some r) i) e = refl
      complex_at k (TypedNode-F.Call g args) e = refl
      complex_at k (TypedNode-F.Unary op a) e = refl
      complex_at k (TypedNode-F.Cast to a) e = refl
      complex_at k (TypedNode-F.Convert to a) e = refl
      complex_at k (TypedNode-F.Bump op a) e = refl
      complex_at k (TypedNode-F.Binary op l r) e = refl
      complex_at k (TypedNode-F.Choice t y n) e = refl
      complex_at k (TypedNode-F.Assign op a l r) e = refl
      complex_at k (TypedNode-F.Comma l r) e = refl

      -- what is no number either is no operand
      pub complex : None ≡ simple_arg (expr_of f)
      complex = sym (ap simple_arg (by_out f)
          ∙ complex_at f.kind (out-TypedNode f.node) (roll-out-TypedNode f.node))

  module _ (no_assignment : (o : Option BinaryOp) (at : Kind) (l r : TypedExpr)
      → f.node ≡ node.Assign o at l r → ⊥) (c : Context) where
    unassigned_at : (k : Option Kind) (x : TypedNode-F TypedNode TypedExpr)
        → roll-TypedNode x ≡ f.node → expr_code c 0 (level x k) ≡ plain_code c (level x k)
    unassigned_at k (TypedNode-F.Assign op a l r) e =
        absurd (no_assignment op a l r (sym e ∙ node.rolls-Assign op a l r))
    unassigned_at k (TypedNode-F.Name p) e = refl
    unassigned_at k (TypedNode-F.Number w) e = refl
    unassigned_at k (TypedNode-F.Element p None i) e = refl
    unassigned_at k (TypedNode-F.Element p (Some r) i) e = refl
    unassigned_at k (TypedNode-F.Call g args) e = refl
    unassigned_at k (TypedNode-F.Unary op a) e = refl
    unassigned_at k (TypedNode-F.Cast to a) e = refl
    unassigned_at k (TypedNode-F.Convert to a) e = refl
    unassigned_at k (TypedNode-F.Bump op a) e = refl
    unassigned_at k (TypedNode-F.Binary op l r) e = refl
    unassigned_at k (TypedNode-F.Choice t y n) e = refl
    unassigned_at k (TypedNode-F.Comma l r) e = refl

    -- what is no assignment has the code of its value
    pub unassigned : expr_code c 0 (expr_of f) ≡ plain_code c (expr_of f)
    unassigned = ap (expr_code c 0) (by_out f)
        ∙ unassigned_at f.kind (out-TypedNode f.node) (roll-out-TypedNode f.node)
        ∙ sym (ap (plain_code c) (by_out f))
