-- A plain assignment, as a statement, is one flat statement.
use Rattle.std.proofs.Common.{◌≡◌, ℕ, Bool, true, false, Option, Some, None, refl, sym, ap, ◌∙◌, subst}
use Rattle.std.specs.Prelude.{◌&&◌}
use Rattle.c_tree.specs.declared.Kind.{Kind}
use Rattle.c_tree.specs.declared.Place.TheVariants.{Global, Scalar, Array}
use Rattle.c_tree.specs.declared.TypedExpr.{TypedExpr}
use Rattle.c_tree.specs.declared.TypedNode.TheOpen as node
use Rattle.c_tree.specs.TypedTrees.{Node, node_of}
use Rattle.ir_forms.specs.declared.flat.Arg.{Arg}
use Rattle.ir_forms.specs.declared.flat.Arg.TheVariants.{Const, Var}
use Rattle.flat_lower.specs.inside.Tree as tree
use Rattle.flat_lower.specs.inside.TreeViews.{expr_of, expr_if}
use Rattle.flat_lower.specs.inside.Objects.{Context}
use Rattle.flat_lower.specs.inside.Expressions.{expr_code}
use Rattle.flat_lower.specs.inside.Statements.{named_scalar, simple_arg, plain_code, plain_if_code}
use Rattle.flat_lower.proofs.TreeFacts.{plain_node, expr_is}
use Rattle.c_compile_laws.specs.PlainIfs.{is_scalar, is_simple, is_plain_assignment, assigns}
use Rattle.c_compile_laws.proofs.SmallIfs.{IsSet, set_known}

-- false is not true
pub not_so : false ≡ true → ⊥
not_so e = cc e

each_holds : (a b : Bool) → (a && b) ≡ true → (a ≡ true) × (b ≡ true)
each_holds true true h = (refl, refl)
each_holds true false h = absurd (not_so h)
each_holds false true h = absurd (not_so h)
each_holds false false h = absurd (not_so h)

-- a scalar's name names a scalar
names : (x : Node) (k : Option Kind) → is_scalar x ≡ true
    → (i : ℕ) × (named_scalar (plain_node x k) ≡ Some i)
names (node.Name (Scalar j)) k h = (j, refl)
names (node.Name (Global g)) k h = absurd (not_so h)
names (node.Name (Array a)) k h = absurd (not_so h)
names (node.Number w) k h = absurd (not_so h)
names (node.Element p None e) k h = absurd (not_so h)
names (node.Element p (Some r) e) k h = absurd (not_so h)
names (node.Call g args) k h = absurd (not_so h)
names (node.Unary o e) k h = absurd (not_so h)
names (node.Cast to e) k h = absurd (not_so h)
names (node.Convert to e) k h = absurd (not_so h)
names (node.Bump o e) k h = absurd (not_so h)
names (node.Binary o l r) k h = absurd (not_so h)
names (node.Choice t a b) k h = absurd (not_so h)
names (node.Assign o at l r) k h = absurd (not_so h)
names (node.Comma l r) k h = absurd (not_so h)

-- a simple value is an operand
stands : (x : Node) (k : Option Kind) → is_simple x ≡ true
    → (b : Arg) × (simple_arg (plain_node x k) ≡ Some b)
stands (node.Number w) k h = (Const w, refl)
stands (node.Name (Scalar j)) k h = (Var j, refl)
stands (node.Name (Global g)) k h = absurd (not_so h)
stands (node.Name (Array a)) k h = absurd (not_so h)
stands (node.Element p None e) k h = absurd (not_so h)
stands (node.Element p (Some r) e) k h = absurd (not_so h)
stands (node.Call g args) k h = absurd (not_so h)
stands (node.Unary o e) k h = absurd (not_so h)
stands (node.Cast to e) k h = absurd (not_so h)
stands (node.Convert to e) k h = absurd (not_so h)
stands (node.Bump o e) k h = absurd (not_so h)
stands (node.Binary o l r) k h = absurd (not_so h)
stands (node.Choice t a b) k h = absurd (not_so h)
stands (node.Assign o at l r) k h = absurd (not_so h)
stands (node.Comma l r) k h = absurd (not_so h)

module _ (c : Context) where
  node_sets : (x : Node) (k : Option Kind) → is_plain_assignment x ≡ true
      → IsSet (plain_code c (plain_node x k))
  node_sets (node.Assign None at l r) k h =
      let q = each_holds (is_scalar (node_of l)) (is_simple (node_of r)) h in
      let n = names (node_of l) l.kind q.0 in
      let s = stands (node_of r) r.kind q.1 in
      set_known (named_scalar (expr_of l)) (simple_arg (expr_of r))
      (expr_code c 0 (tree.Assign k None at (expr_of l) (expr_of r))) n.0 s.0
      (ap named_scalar (expr_is l) ∙ n.1) (ap simple_arg (expr_is r) ∙ s.1)
  node_sets (node.Assign (Some o) at l r) k h = absurd (not_so h)
  node_sets (node.Number w) k h = absurd (not_so h)
  node_sets (node.Name p) k h = absurd (not_so h)
  node_sets (node.Element p r e) k h = absurd (not_so h)
  node_sets (node.Call g args) k h = absurd (not_so h)
  node_sets (node.Unary o e) k h = absurd (not_so h)
  node_sets (node.Cast to e) k h = absurd (not_so h)
  node_sets (node.Convert to e) k h = absurd (not_so h)
  node_sets (node.Bump o e) k h = absurd (not_so h)
  node_sets (node.Binary o l r) k h = absurd (not_so h)
  node_sets (node.Choice t a b) k h = absurd (not_so h)
  node_sets (node.Comma l r) k h = absurd (not_so h)

  -- the same of the expression of a statement
  pub plain_sets : (e : Option TypedExpr) → assigns e ≡ true → IsSet (plain_if_code c (expr_if e))
  plain_sets None h = absurd (not_so h)
  plain_sets (Some e) h =
      subst (λ (x : tree.Expr). IsSet (plain_code c x)) (sym (expr_is e)) (node_sets (node_of e) e.kind h)
