-- Every expression follows the evaluation, where its parts and the functions' bodies do with fewer
-- steps.
use Rattle.std.proofs.Common.{◌≡◌, ◌≢◌, ℕ, zero, suc, ◌+◌, ◌-◌, ◌*◌, ◌<◌, ◌≤◌, List, [], ◌∷◌, map}
use Rattle.std.proofs.Common.{Option, Some, None, refl, sym, ap, ◌∙◌, subst, arith}
use Rattle.c_tree.specs.declared.Kind.{Kind}
use Rattle.c_tree.specs.declared.BinaryOp.{BinaryOp}
use Rattle.c_tree.specs.declared.BinaryOp.TheVariants.{LogicalOr, LogicalAnd}
use Rattle.c_tree.specs.declared.TypedExpr.{TypedExpr}
use Rattle.c_tree.specs.declared.TypedStmt.{TypedStmt}
use Rattle.c_tree.specs.declared.TypedProgram.{TypedProgram}
use Rattle.c_tree.specs.declared.TypedNode.TheOpen as node
use Rattle.c_constant.specs.Kinds.{converted}
use Rattle.c_meaning_spec.specs.declared.signal.Signal.{Signal}
use Rattle.c_meaning_spec.specs.declared.signal.Signal.TheVariants.{Nothing, Value, Breaks, Continues}
use Rattle.c_meaning_spec.specs.declared.signal.Signal.TheVariants.{Returns}
use Rattle.c_meaning_spec.specs.State.{Result, Go, Over, spend_of, spend, want}
use Rattle.c_meaning_spec.specs.inside.State.{then}
use Rattle.c_meaning_spec.specs.State as eval
use Rattle.c_meaning_spec.specs.Task.{Of}
use Rattle.c_meaning_spec.specs.Expression as level
use Rattle.c_tree.specs.TypedTrees.{Node, node_of}
use Rattle.c_meaning_spec.specs.Expression.{opened, expression, converting}
use Rattle.c_meaning_spec.specs.Eval.{meaning}
use Rattle.c_meaning_spec.proofs.Equations.{meaning-is}
use Rattle.ir_forms.specs.inside.FlatSteps.{State}
use Rattle.flat_lower.specs.inside.Tree as tree
use Rattle.flat_lower.specs.inside.TreeViews.{expr_of, exprs_of, source_of}
use Rattle.flat_lower.specs.inside.Operations.{temp, converted_here}
use Rattle.flat_lower.specs.inside.Expressions.{operand_at, expr_code}
use Rattle.flat_lower.specs.inside.Fits.{FitsExpr, FitsSource}
use Rattle.flat_lower.specs.inside.Sizes.{nodes, IsMost}
use Rattle.flat_lower.proofs.OperationWorks.{IsStrict}
use Rattle.flat_lower.proofs.TreeFacts.{plain_node, expr_is, kind_is}
use Rattle.flat_lower.proofs.Depths.{depth_fits}
use Rattle.flat_lower.proofs.Follows.{Follows, then_follows, wanted}
use Rattle.flat_lower.proofs.Related.{Scene, IsScene, scope, context, Related}
use Rattle.flat_lower.proofs.Values.{Valued, value_at, valued_settles, functions, base, FollowsOf}
use Rattle.flat_lower.proofs.Values.{run, code, spending}
use Rattle.flat_lower.proofs.Simple.{FollowsHere, number_node, name_node, unary_node, cast_node}
use Rattle.flat_lower.proofs.Simple.{element_node, convert_end}
use Rattle.flat_lower.proofs.RowNodes.{row_element_node}
use Rattle.flat_lower.proofs.Binary.{strict_node, depth_is}
use Rattle.flat_lower.proofs.ChoicesFollow.{choice_node, comma_node, and_node, or_node}
use Rattle.flat_lower.proofs.Bumps.{bump_node}
use Rattle.flat_lower.proofs.Assigns.{assign_node}
use Rattle.flat_lower.proofs.Returns.{FollowsRun}
use Rattle.flat_lower.proofs.Calls.{call_node}

-- what goes on has spent a step
spent_some : (n : ℕ) (s : eval.State) (next : eval.State → Result) (v : Signal) (s1 : eval.State)
    → spend_of n s next ≡ Go v s1 → 0 < n
spent_some zero s next v s1 e = absurd (cc e)
spent_some (suc n) s next v s1 e = omega arith

module _ (P : TypedProgram) (most : ℕ) (sound : FitsSource (source_of P)) (large : IsMost (source_of P) most) where
  -- with fewer steps the parts follow
  abbrev pub Parts : eval.State → Type 0
  Parts s = ((e : TypedExpr) (s1 : eval.State) → s1.stock < s.stock → FollowsOf P most e s1)
      × ((st : TypedStmt) (s1 : eval.State) → s1.stock < s.stock → FollowsRun P most st s1)

  module _ (S : Scene) (y : IsScene P S) (s : eval.State) (h : Parts s) (j : Option Kind) (d top low : ℕ) (f : State)
      (r : Related S s f) where
    abbrev Here : Node → Type 0
    Here x = FitsExpr (scope P S) d (plain_node x j)
        → low ≤ s.stock + most * f.rounds - nodes (plain_node x j)
        → FollowsHere P most S y d j f (expr_code (context P S) d (plain_node x j)) f top low
        (level.node (meaning P) P x s)

    strict_here : (o : BinaryOp) → IsStrict (functions P most) (base P most) S.env o
        → 8 * s.stock ≤ top + 4 → (l e : TypedExpr) → Here (node.Binary o l e)
    strict_here o st hu l e t hl =
        strict_node P most S y j o l e d top low s f st
        (subst (λ n. n < 16) (depth_is P most S y o st d)
        (depth_fits (scope P S) (operand_at o d) (expr_of e) t.1)) h.0 t r hu hl

    node_follows : (x : Node) → 8 * s.stock ≤ top + 4 → Here x
    node_follows (node.Number w) hu t hl = number_node P most S y j w d top low s f t r hu hl
    node_follows (node.Name p) hu t hl = name_node P most S y j p d top low s f t r hu hl
    node_follows (node.Element p None e) hu t hl =
        element_node P most S y j p e d top low s f (depth_fits (scope P S) d (expr_of e) t.1)
        (h.0 e) t r hu hl
    node_follows (node.Element p (Some row) e) hu t hl =
        row_element_node P most S y j p row e d top low s f
        (depth_fits (scope P S) d (expr_of row) t.1) h.0 t r hu hl
    node_follows (node.Call c es) hu t hl =
        call_node P most sound large S y j c es d top low s f h.0 h.1 t r hu hl
    node_follows (node.Unary o e) hu t hl =
        unary_node P most S y j o e d top low s f (depth_fits (scope P S) d (expr_of e) t.0)
        (h.0 e) t r hu hl
    node_follows (node.Cast to e) hu t hl =
        cast_node P most S y j to e d top low s f (depth_fits (scope P S) d (expr_of e) t.0)
        (h.0 e) t r hu hl
    node_follows (node.Convert to e) hu t hl =
        let d1 = nodes (expr_of e) in
        spending P most S y (Valued S d j f)
        (expr_code (context P S) d (tree.Convert j to (expr_of e))) s f top low
        (opened (meaning P) P (node.Convert to e)) r (omega arith) (λ n e rn. tt)
    node_follows (node.Bump o e) hu t hl =
        bump_node P most S y j o e d top low s f
        (depth_fits (scope P S) d (tree.Bump j o (expr_of e)) t) h.0 t r hu hl
    node_follows (node.Choice c one other) hu t hl =
        choice_node P most S y j c one other d top low s f
        (depth_fits (scope P S) d (expr_of c) t.0) h.0 t r hu hl
    node_follows (node.Assign o at l e) hu t hl =
        assign_node P most S y j o at l e d top low s f
        (depth_fits (scope P S) d (tree.Assign j o at (expr_of l) (expr_of e)) t)
        (λ n. depth_fits (scope P S) n (expr_of e)) h.0 t r hu hl
    node_follows (node.Comma l e) hu t hl =
        comma_node P most S y j l e d top low s f
        (depth_fits (scope P S) d (expr_of l) t.0) h.0 t r hu hl
    node_follows (node.Binary LogicalOr l e) hu t hl =
        or_node P most S y j l e d top low s f
        (depth_fits (scope P S) d (expr_of l) t.0) h.0 t r hu hl
    node_follows (node.Binary LogicalAnd l e) hu t hl =
        and_node P most S y j l e d top low s f
        (depth_fits (scope P S) d (expr_of l) t.0) h.0 t r hu hl
    node_follows (node.Binary o l e) hu t hl = strict_here o tt hu l e t hl

  -- an expression's level; a conversion stands over a node and costs no step
  level_follows : (x : Node) (S : Scene) (y : IsScene P S) (s : eval.State) → Parts s
      → (j : Option Kind) (d top low : ℕ) (f : State) → Related S s f → 8 * s.stock ≤ top + 3
      → FitsExpr (scope P S) d (plain_node x j)
      → low ≤ s.stock + most * f.rounds - nodes (plain_node x j)
      → FollowsHere P most S y d j f (expr_code (context P S) d (plain_node x j)) f top low
      (expression (meaning P) P x s)
  level_follows (node.Convert to e) S y s h j d top low f r hu t hl =
      let X = plain_node (node_of e) e.kind in
      let down = s.stock + most * f.rounds - nodes X in
      let b = converted_here (tree.kind_of (expr_of e)) to (temp d) in
      let lower : low ≤ down = subst (λ x. low ≤ s.stock + most * f.rounds - nodes x) (expr_is e) hl in
      let inner : FollowsHere P most S y d e.kind f (code P most S y d e) f (top - 1) down
      (level.node (meaning P) P (node_of e) s) =
      subst (λ x. FollowsHere P most S y d e.kind f (expr_code (context P S) d x) f (top - 1) down
      (level.node (meaning P) P (node_of e) s)) (sym (expr_is e))
      (node_follows S y s h e.kind d (top - 1) down f r (node_of e) (omega arith)
      (subst (FitsExpr (scope P S) d) (expr_is e) t.0) (omega arith)) in
      then_follows (functions P most) (base P most) most S.env (Valued S d e.kind f)
      (Valued S d j f) (code P most S y d e) b f (top - 1) down top low
      (level.node (meaning P) P (node_of e) s) (converting to) inner (omega arith)
      lower
      (λ v s1 g t1 eq holds u l. let some = spent_some s.stock s (opened (meaning P) P (node_of e)) v s1 eq in (
        valued_settles S d e.kind f v s1 g holds,
        wanted most (Valued S d j f) (run P most S y b g)
            (top - t1) low v s1 (λ a. Go (Value (converted to a)) s1) (λ a ea.
            convert_end P most S y to j (tree.kind_of (expr_of e)) e.kind d a (top - t1) low f g s1
            (depth_fits (scope P S) d (expr_of e) t.0) t.1 (kind_is e)
            (value_at S d e.kind f v a s1 g ea holds) (omega arith)
            (omega (arith, l, lower))),
      ))
  level_follows (node.Number w) S y s h j d top low f r hu t hl =
      node_follows S y s h j d top low f r (node.Number w) (omega arith) t hl
  level_follows (node.Name p) S y s h j d top low f r hu t hl =
      node_follows S y s h j d top low f r (node.Name p) (omega arith) t hl
  level_follows (node.Element p None e) S y s h j d top low f r hu t hl =
      node_follows S y s h j d top low f r (node.Element p None e) (omega arith) t hl
  level_follows (node.Element p (Some row) e) S y s h j d top low f r hu t hl =
      node_follows S y s h j d top low f r (node.Element p (Some row) e) (omega arith) t hl
  level_follows (node.Call c es) S y s h j d top low f r hu t hl =
      node_follows S y s h j d top low f r (node.Call c es) (omega arith) t hl
  level_follows (node.Unary o e) S y s h j d top low f r hu t hl =
      node_follows S y s h j d top low f r (node.Unary o e) (omega arith) t hl
  level_follows (node.Cast to e) S y s h j d top low f r hu t hl =
      node_follows S y s h j d top low f r (node.Cast to e) (omega arith) t hl
  level_follows (node.Bump o e) S y s h j d top low f r hu t hl =
      node_follows S y s h j d top low f r (node.Bump o e) (omega arith) t hl
  level_follows (node.Binary o l e) S y s h j d top low f r hu t hl =
      node_follows S y s h j d top low f r (node.Binary o l e) (omega arith) t hl
  level_follows (node.Choice c one other) S y s h j d top low f r hu t hl =
      node_follows S y s h j d top low f r (node.Choice c one other) (omega arith) t hl
  level_follows (node.Assign o at l e) S y s h j d top low f r hu t hl =
      node_follows S y s h j d top low f r (node.Assign o at l e) (omega arith) t hl
  level_follows (node.Comma l e) S y s h j d top low f r hu t hl =
      node_follows S y s h j d top low f r (node.Comma l e) (omega arith) t hl

  -- the code of each expression follows the evaluation, where its parts do
  pub expr_follows : (e : TypedExpr) (s : eval.State) → Parts s → FollowsOf P most e s
  expr_follows e s h S y d top low f t r hu hl =
      subst (λ x. FollowsHere P most S y d e.kind f (code P most S y d e) f top low x)
      (sym (meaning-is P (Of e) s))
      (subst (λ x. FitsExpr (scope P S) d x → low ≤ s.stock + most * f.rounds - nodes x
      → FollowsHere P most S y d e.kind f (expr_code (context P S) d x) f top low
      (expression (meaning P) P (node_of e) s)) (sym (expr_is e))
      (level_follows (node_of e) S y s h e.kind d top low f r hu) t hl)
