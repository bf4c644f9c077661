-- An element by two indexes whose value is taken.
use Rattle.std.proofs.Common.{◌≡◌, ℕ, suc, ◌+◌, ◌-◌, ◌*◌, ◌<◌, ◌≤◌, Option, Some, None, subst, arith}
use Rattle.c_tree.specs.declared.Kind.{Kind}
use Rattle.c_tree.specs.declared.Kind.TheVariants.{ULong}
use Rattle.c_tree.specs.declared.Place.{Place}
use Rattle.c_tree.specs.declared.TypedExpr.{TypedExpr}
use Rattle.c_tree.specs.declared.TypedProgram.{TypedProgram}
use Rattle.c_tree.specs.declared.TypedNode.TheOpen as node
use Rattle.c_meaning_spec.specs.declared.fault.Fault.TheVariants.{IllFormed}
use Rattle.c_meaning_spec.specs.declared.signal.Signal.TheVariants.{Value}
use Rattle.c_meaning_spec.specs.State.{Go, spend, with_some, load}
use Rattle.c_meaning_spec.specs.State as eval
use Rattle.c_meaning_spec.specs.Task.{element_in, row_element_of}
use Rattle.c_meaning_spec.specs.Expression.{opened}
use Rattle.c_meaning_spec.specs.Eval.{meaning}
use Rattle.ir_forms.specs.inside.FlatCode.{Then}
use Rattle.ir_forms.specs.inside.FlatSteps.{State}
use Rattle.flat_lower.specs.inside.Tree as tree
use Rattle.flat_lower.specs.inside.TreeViews.{expr_of}
use Rattle.flat_lower.specs.inside.Expressions.{element_code, expr_code, joined_code}
use Rattle.flat_lower.specs.inside.Fits.{FitsExpr}
use Rattle.flat_lower.specs.inside.Sizes.{nodes}
use Rattle.flat_lower.proofs.Depths.{depth_fits}
use Rattle.flat_lower.proofs.Related.{Scene, IsScene, scope, context, Related}
use Rattle.flat_lower.proofs.Values.{ValueIs, Valued, FollowsOf, run, code, spending}
use Rattle.flat_lower.proofs.Simple.{FollowsHere, element_end}
use Rattle.flat_lower.proofs.RowElements.{row_operands, row_reads}

module _ (P : TypedProgram) (most : ℕ) (S : Scene) (y : IsScene P S) where
  -- the code of an element by two indexes follows the evaluation, where its indexes do
  pub row_element_node : (k : Option Kind) (p : Place) (row e : TypedExpr) (d top low : ℕ)
      (s : eval.State) (f : State) → d < 16
      → ((e : TypedExpr) (s1 : eval.State) → s1.stock < s.stock → FollowsOf P most e s1)
      → FitsExpr (scope P S) d (tree.RowElement k p (expr_of row) (expr_of e)) → Related S s f
      → 8 * s.stock ≤ top + 4
      → low ≤ s.stock + most * f.rounds - (1 + (nodes (expr_of row) + nodes (expr_of e)))
      → FollowsHere P most S y d k f (expr_code (context P S) d
      (tree.RowElement k p (expr_of row) (expr_of e))) f top low
      (spend s (opened (meaning P) P (node.Element p (Some row) e)))
  row_element_node None p row e d top low s f ld h t r hu hl = absurd t.0
  row_element_node (Some k) p row e d top low s f ld h t r hu hl =
      let b = element_code (context P S) p d k in
      let q = t.0.0 in
      let Q = Valued S d (Some k) f in
      spending P most S y Q (Then (joined_code (context P S) p d (code P most S y d row)
      (code P most S y (suc d) e)) b) s f top low (opened (meaning P) P (node.Element p (Some row) e)) r
      (omega arith) (λ n qn rn.
      row_operands P most S y Q p k q row e d b (record s { stock = n }) f top low
      (λ i j s. with_some (row_element_of p i j s) IllFormed s (λ x. load x s))
      (depth_fits (scope P S) (suc d) (expr_of e) t.2) (λ e1 s1 le. h e1 s1 (omega arith)) t.0.1 t.1 t.2
      rn (omega arith) (omega arith)
      (λ i j s2 g t1 v ls us ds.
      row_reads P most S y Q (run P most S y b g) (top - t1) low p k q i j s2 g
      (λ x u. Go (Value u) s2) v.keeps.rel t.0.1 (λ n m en same.
      subst (λ o. FollowsHere P most S y d (Some k) f b g (top - t1) low
      (with_some (element_in o m) IllFormed s2 (λ x. load x s2))) en
      (element_end P most S y p (Some q) k d m (top - t1) low f g s2 (Some ULong) ld t.0.1
      (subst (λ w. ValueIs S d (Some ULong) f w s2 g) same v) (omega arith) (omega arith)))))
