-- Expressions that are no constants.
use Rattle.std.proofs.Common.{◌≡◌, ℕ, Option, Some, None, refl, sym, ap, ◌∙◌}
use Rattle.c_tree.specs.declared.Kind.{Kind}
use Rattle.c_tree.specs.declared.TypedExpr.{TypedExpr}
use Rattle.c_tree.specs.declared.TypedNode.{TypedNode, roll-TypedNode, out-TypedNode}
use Rattle.c_tree.specs.declared.TypedNode.{roll-out-TypedNode}
use Rattle.c_tree.specs.declared.TypedNode.TheVariants as node
use Rattle.c_tree.specs.declared.TypedNode.TheOpen.{TypedNode-F}
use Rattle.flat_lower.specs.inside.TreeViews.{expr_of}
use Rattle.flat_lower.specs.inside.Powers.{number_of, constant_of}
use Rattle.flat_lower.proofs.EmitTrees.{level, by_out}

module _ (f : TypedExpr) where
  module _ (unlike : (w : ℕ) → f.node ≡ node.Number w → ⊥) where
    number_at : (k : Option Kind) (x : TypedNode-F TypedNode TypedExpr) → roll-TypedNode x ≡ f.node
        → number_of (level x k) ≡ None
    number_at k (TypedNode-F.Number w) e = absurd (unlike w (sym e ∙ node.rolls-Number w))
    number_at k (TypedNode-F.Name p) e = refl
    number_at k (TypedNode-F.Element p None i) e = refl
    number_at k (TypedNode-F.Element p (Some r) i) e = refl
    number_at k (TypedNode-F.Call g args) e = refl
    number_at k (TypedNode-F.Unary op a) e = refl
    number_at k (TypedNode-F.Cast to a) e = refl
    number_at k (TypedNode-F.Convert to a) e = refl
    number_at k (TypedNode-F.Bump op a) e = refl
    number_at k (TypedNode-F.Binary op l r) e = refl
    number_at k (TypedNode-F.Choice t y n) e = refl
    number_at k (TypedNode-F.Assign op a l r) e = refl
    number_at k (TypedNode-F.Comma l r) e = refl

    -- what is no number has no word
    pub no_number : None ≡ number_of (expr_of f)
    no_number = sym (ap number_of (by_out f)
        ∙ number_at f.kind (out-TypedNode f.node) (roll-out-TypedNode f.node))

  module _ (unturned : (to : Kind) (a : TypedExpr) → f.node ≡ node.Convert to a → ⊥)
      (unlike : (w : ℕ) → f.node ≡ node.Number w → ⊥) where
    constant_at : (k : Option Kind) (x : TypedNode-F TypedNode TypedExpr) → roll-TypedNode x ≡ f.node
        → constant_of (level x k) ≡ None
    constant_at k (TypedNode-F.Number w) e = absurd (unlike w (sym e ∙ node.rolls-Number w))
    constant_at k (TypedNode-F.Convert to a) e = absurd (unturned to a (sym e ∙ node.rolls-Convert to a))
    constant_at k (TypedNode-F.Name p) e = refl
    constant_at k (TypedNode-F.Element p None i) e = refl
    constant_at k (TypedNode-F.Element p (Some r) i) e = refl
    constant_at k (TypedNode-F.Call g args) e = refl
    constant_at k (TypedNode-F.Unary op a) e = refl
    constant_at k (TypedNode-F.Cast to a) e = refl
    constant_at k (TypedNode-F.Bump op a) e = refl
    constant_at k (TypedNode-F.Binary op l r) e = refl
    constant_at k (TypedNode-F.Choice t y n) e = refl
    constant_at k (TypedNode-F.Assign op a l r) e = refl
    constant_at k (TypedNode-F.Comma l r) e = refl

    -- what is no number, converted or not, is no constant
    pub no_constant : None ≡ constant_of (expr_of f)
    no_constant = sym (ap constant_of (by_out f)
        ∙ constant_at f.kind (out-TypedNode f.node) (roll-out-TypedNode f.node))
