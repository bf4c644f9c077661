-- Assignments follow the evaluation.
use Rattle.std.proofs.Common.{◌≡◌, ℕ, suc, ◌+◌, ◌-◌, ◌*◌, ◌<◌, ◌≤◌}
use Rattle.std.proofs.Common.{Option, Some, None, refl}
use Rattle.std.proofs.Common.{sym, ◌∙◌, subst, arith}
use Rattle.c_tree.specs.declared.Kind.{Kind}
use Rattle.c_tree.specs.declared.Kind.TheVariants.{ULong}
use Rattle.c_tree.specs.declared.BinaryOp.{BinaryOp}
use Rattle.c_tree.specs.declared.Place.TheVariants.{Global, Scalar, Array}
use Rattle.c_tree.specs.declared.TypedExpr.{TypedExpr}
use Rattle.c_tree.specs.declared.TypedProgram.{TypedProgram}
use Rattle.c_tree.specs.declared.TypedNode.TheOpen as node
use Rattle.c_meaning_spec.specs.declared.fault.Fault.TheVariants.{IllFormed}
use Rattle.c_meaning_spec.specs.State.{Result, spend}
use Rattle.c_meaning_spec.specs.inside.State.{then}
use Rattle.c_meaning_spec.specs.State as eval
use Rattle.c_meaning_spec.specs.Task.{Of, element_in, element_of}
use Rattle.c_meaning_spec.specs.Expression.{opened}
use Rattle.c_meaning_spec.specs.Eval.{meaning, length_of}
use Rattle.ir_forms.specs.declared.flat.Arg.TheVariants.{Var}
use Rattle.ir_forms.specs.inside.FlatCode.{Then, only}
use Rattle.ir_forms.specs.inside.FlatSteps.{State}
use Rattle.flat_lower.specs.inside.Tree.{kind_of}
use Rattle.flat_lower.specs.inside.Tree as tree
use Rattle.flat_lower.specs.inside.TreeViews.{expr_of}
use Rattle.flat_lower.specs.inside.Operations.{temp}
use Rattle.flat_lower.specs.inside.Objects.{global_at, address_code}
use Rattle.flat_lower.specs.inside.Expressions.{with_kind}
use Rattle.flat_lower.specs.inside.Expressions.{expr_code}
use Rattle.flat_lower.specs.inside.Fits.{FitsExpr}
use Rattle.flat_lower.specs.inside.Sizes.{nodes}
use Rattle.flat_lower.proofs.Follows.{needed, wanted}
use Rattle.flat_lower.proofs.Related.{Scene, IsScene, scope, context, object, Related}
use Rattle.flat_lower.proofs.Values.{ValueIs, Valued, value_at}
use Rattle.flat_lower.proofs.Values.{FollowsOf, run, code}
use Rattle.flat_lower.proofs.Values.{operand, spending}
use Rattle.flat_lower.proofs.Depths.{depth_fits}
use Rattle.flat_lower.proofs.RowElements.{joined, row_element_is, row_operands, row_reads}
use Rattle.flat_lower.proofs.Simple.{FollowsHere}
use Rattle.c_meaning_spec.specs.State.{with_some}
use Rattle.c_meaning_spec.specs.Task.{row_element_of}
use Rattle.c_tree.specs.TypedTrees.{Node, node_of}
use Rattle.ir_forms.specs.inside.FlatCode.{Save}
use Rattle.flat_lower.specs.inside.Operations.{save_op}
use Rattle.flat_lower.specs.inside.Expressions.{index_code}
use Rattle.flat_lower.specs.inside.Fits.{FitsLeft}
use Rattle.flat_lower.specs.inside.Sizes.{left_nodes}
use Rattle.flat_lower.proofs.TreeFacts.{plain_node, expr_is, kind_levels}
use Rattle.c_meaning_spec.specs.Expression.{compounded, assign_to, assign_element, assign}
use Rattle.flat_lower.specs.inside.Expressions.{compound_code, old_element}
use Rattle.flat_lower.specs.inside.Expressions.{assign_element as element_assign, before_right, right_at}
use Rattle.flat_lower.specs.inside.Expressions.{after_right}
use Rattle.flat_lower.specs.inside.Fits.{FitsCompound}
use Rattle.flat_lower.proofs.Bumps.{left_kind, left_some}
use Rattle.flat_lower.proofs.AssignedPlaces.{scalar_plain, scalar_compound, global_plain, global_compound}
use Rattle.flat_lower.proofs.AssignedPlaces.{stored_plain, element_plain, element_compound}

module _ (P : TypedProgram) (most : ℕ) (S : Scene) (y : IsScene P S) where
  -- NODES

  -- a left side, and all that follows it
  abbrev pub FollowsAssign : Option BinaryOp → Kind → Kind → Node → Option Kind → ℕ → TypedExpr
      → State → ℕ → ℕ → Result → Type 0
  FollowsAssign o k at x j d r f top low z =
      FollowsHere P most S y d (Some k) f
      (Then (index_code (context P S) d (plain_node x j))
      (Then (before_right (context P S) o at d (plain_node x j) k)
      (Then (code P most S y (right_at o d (plain_node x j)) r)
      (after_right (context P S) o at d (plain_node x j) k))))
      f top low z

  assign_left : (o : Option BinaryOp) (k at : Kind) (x : Node) (j : Option Kind) (r : TypedExpr)
      (d top low : ℕ) (s : eval.State) (f : State)
      → ((e : TypedExpr) (s1 : eval.State) → s1.stock ≤ s.stock → FollowsOf P most e s1) → d < 16
      → ((n : ℕ) → FitsExpr (scope P S) n (expr_of r) → n < 16)
      → FitsLeft (scope P S) d (Some k) (plain_node x j)
      → FitsExpr (scope P S) (right_at o d (plain_node x j)) (expr_of r)
      → FitsCompound o at k (kind_of (expr_of r)) → Related S s f → 8 * s.stock + 4 ≤ top
      → low ≤ s.stock + most * f.rounds - (left_nodes (plain_node x j) + nodes (expr_of r))
      → FollowsAssign o k at x j d r f top low (assign (meaning P) o (Some k) at x r s)
  assign_left None k at (node.Name (Scalar i)) j r d top low s f h ld lr tl tr tc rl hu hl =
      scalar_plain P most S y i k at r d top low s f ld tl.1.1 (h r s (omega arith)) tr tc rl hu (omega arith)
  assign_left (Some o) k at (node.Name (Scalar i)) j r d top low s f h ld lr tl tr tc rl hu hl =
      scalar_compound P most S y o i k at r d top low s f (lr (suc d) tr) tl.1.1
      (h r s (omega arith)) tr tc rl hu (omega arith)
  assign_left None k at (node.Name (Global n)) j r d top low s f h ld lr tl tr tc rl hu hl =
      let x = tl.1.1 in
      global_plain P most S y n k at (record {
        it = object (global_at P.globals n) x.global.kind
            (length_of x.global.length) x.global.row;
        found = y.globals n x.global x.found;
        kind = x.kind;
      }) r d top
      low s f ld refl (h r s (omega arith)) tr tc rl hu (omega arith)
  assign_left (Some o) k at (node.Name (Global n)) j r d top low s f h ld lr tl tr tc rl hu hl =
      let x = tl.1.1 in
      global_compound P most S y o n k at x (record {
        it = object (global_at P.globals n) x.global.kind
            (length_of x.global.length) x.global.row;
        found = y.globals n x.global x.found;
        kind = x.kind;
      }) r d top
      low s f (lr (suc d) tr) refl (h r s (omega arith)) tr tc rl hu (omega arith)
  assign_left o k at (node.Name (Array a)) j r d top low s f h ld lr tl tr tc rl hu hl =
      absurd tl.1.1
  assign_left None k at (node.Element p None e) j r d top low s f h ld lr tl tr tc rl hu hl =
      let b = Then (address_code (context P S) p k (temp d) (temp d))
      (Then (code P most S y (suc d) r) (element_assign d k)) in
      operand P most S y (Valued S d (Some k) f) e d b s f top low
      (assign_element (meaning P) None (Some k) at p r) (h e s (omega arith)) tl.2 rl
      (omega arith) (omega arith)
      (λ v s1 g t1 hv ls us ds.
      wanted most (Valued S d (Some k) f) (run P most S y b g) (top - t1) low v s1
      (λ w. with_some (element_of p w s1) IllFormed s1 (assign_to (meaning P) None (Some k) at r s1))
      (λ w ew.
      element_plain P most S y p k at r e.kind d w (top - t1) low s1 f g (lr (suc d) tr) tl.1
      (λ s2 le. h r s2 (omega arith)) tr tc (value_at S d e.kind f v w s1 g ew hv) (omega arith)
      (omega arith)))
  assign_left (Some o) k at (node.Element p None e) j r d top low s f h ld lr tl tr tc rl hu hl =
      let b = Then (old_element (context P S) p d at k)
      (Then (code P most S y (suc (suc d)) r)
      (Then (compound_code o d (suc (suc d)) at k)
      (only (Save (save_op k) (Var (temp (suc d))) (Var (temp d)))))) in
      operand P most S y (Valued S d (Some k) f) e d b s f top low
      (assign_element (meaning P) (Some o) (Some k) at p r) (h e s (omega arith)) tl.2 rl
      (omega arith) (omega arith)
      (λ v s1 g t1 hv ls us ds.
      wanted most (Valued S d (Some k) f) (run P most S y b g) (top - t1) low v s1
      (λ w. with_some (element_of p w s1) IllFormed s1 (assign_to (meaning P) (Some o) (Some k) at r s1))
      (λ w ew.
      element_compound P most S y o p None k at r e.kind d w (top - t1) low s1 f g (lr (suc (suc d)) tr) tl.1
      (λ s2 le. h r s2 (omega arith)) tr tc (value_at S d e.kind f v w s1 g ew hv) (omega arith)
      (omega arith)))
  assign_left None k at (node.Element p (Some row) e) j r d top low s f h ld lr tl tr tc rl hu hl =
      let b = Then (address_code (context P S) p k (temp d) (temp d))
      (Then (code P most S y (suc d) r) (element_assign d k)) in
      let q = tl.1.0 in
      let Q = Valued S d (Some k) f in
      row_operands P most S y Q p k q row e d b s f top low
      (λ i j s. with_some (row_element_of p i j s) IllFormed s (assign_to (meaning P) None (Some k) at r s))
      (depth_fits (scope P S) (suc d) (expr_of e) tl.3) h tl.1.1 tl.2 tl.3 rl (omega arith) (omega arith)
      (λ i j s2 g t1 v ls us ds.
      needed most Q (run P most S y b g) (top - t1) low (row_element_of p i j s2) _ s2
      (assign_to (meaning P) None (Some k) at r s2) (λ x ex.
      let n = row_element_is P most S y p k q i j s2 g x v.keeps.rel tl.1.1 ex in
      subst (λ x. FollowsHere P most S y d (Some k) f b g (top - t1) low
      (assign_to (meaning P) None (Some k) at r s2 x)) (sym n.is)
      (stored_plain P most S y p (Some q) k at r (Some ULong) d n.number (joined q i j) n.index (top - t1) low s2 f g
      (lr (suc d) tr) tl.1.1 n.array n.same (λ s3 le. h r s3 (omega arith)) tr tc v (omega arith)
      (omega arith))))
  assign_left (Some o) k at (node.Element p (Some row) e) j r d top low s f h ld lr tl tr tc rl hu hl =
      let b = Then (old_element (context P S) p d at k)
      (Then (code P most S y (suc (suc d)) r)
      (Then (compound_code o d (suc (suc d)) at k)
      (only (Save (save_op k) (Var (temp (suc d))) (Var (temp d)))))) in
      let q = tl.1.0 in
      let Q = Valued S d (Some k) f in
      row_operands P most S y Q p k q row e d b s f top low
      (λ i j s. with_some (row_element_of p i j s) IllFormed s (assign_to (meaning P) (Some o) (Some k) at r s))
      (depth_fits (scope P S) (suc d) (expr_of e) tl.3) h tl.1.1 tl.2 tl.3 rl (omega arith) (omega arith)
      (λ i j s2 g t1 v ls us ds.
      row_reads P most S y Q (run P most S y b g) (top - t1) low p k q i j s2 g
      (λ x old. then (meaning P (Of r) s2) (compounded o (Some k) at x old)) v.keeps.rel tl.1.1
      (λ n m en same.
      subst (λ o1. FollowsHere P most S y d (Some k) f b g (top - t1) low
      (with_some (element_in o1 m) IllFormed s2 (assign_to (meaning P) (Some o) (Some k) at r s2))) en
      (element_compound P most S y o p (Some q) k at r (Some ULong) d m (top - t1) low s2 f g
      (lr (suc (suc d)) tr) tl.1.1 (λ s3 le. h r s3 (omega arith)) tr tc
      (subst (λ w. ValueIs S d (Some ULong) f w s2 g) same v) (omega arith) (omega arith))))
  assign_left o k at (node.Number w) j r d top low s f h ld lr tl tr tc rl hu hl = absurd tl
  assign_left o k at (node.Call g args) j r d top low s f h ld lr tl tr tc rl hu hl = absurd tl
  assign_left o k at (node.Unary u e) j r d top low s f h ld lr tl tr tc rl hu hl = absurd tl
  assign_left o k at (node.Cast to e) j r d top low s f h ld lr tl tr tc rl hu hl = absurd tl
  assign_left o k at (node.Convert to e) j r d top low s f h ld lr tl tr tc rl hu hl = absurd tl
  assign_left o k at (node.Bump u e) j r d top low s f h ld lr tl tr tc rl hu hl = absurd tl
  assign_left o k at (node.Binary u a b) j r d top low s f h ld lr tl tr tc rl hu hl = absurd tl
  assign_left o k at (node.Choice a b c) j r d top low s f h ld lr tl tr tc rl hu hl = absurd tl
  assign_left o k at (node.Assign u q a b) j r d top low s f h ld lr tl tr tc rl hu hl = absurd tl
  assign_left o k at (node.Comma a b) j r d top low s f h ld lr tl tr tc rl hu hl = absurd tl

  assign_plain : (k : Option Kind) (o : Option BinaryOp) (at : Kind) (x : Node) (j : Option Kind)
      (r : TypedExpr) (d top low : ℕ) (s : eval.State) (f : State) → d < 16
      → ((n : ℕ) → FitsExpr (scope P S) n (expr_of r) → n < 16)
      → ((e : TypedExpr) (s1 : eval.State) → s1.stock < s.stock → FollowsOf P most e s1)
      → FitsExpr (scope P S) d (tree.Assign k o at (plain_node x j) (expr_of r)) → Related S s f
      → 8 * s.stock ≤ top + 4 → low ≤ s.stock + most * f.rounds -
      (1 + (left_nodes (plain_node x j) + nodes (expr_of r)))
      → FollowsHere P most S y d k f (expr_code (context P S) d
      (tree.Assign k o at (plain_node x j) (expr_of r))) f top low
      (spend s (assign (meaning P) o j at x r))
  assign_plain None o at x j r d top low s f ld lr h t rl hu hl =
      absurd (left_some P most S y x j d t.0)
  assign_plain (Some k) o at x j r d top low s f ld lr h t rl hu hl =
      let same : j ≡ Some k = left_kind P most S y (Some k) x j d t.0 in
      let kinds : kind_of (plain_node x j) ≡ Some k = kind_levels x j ∙ same in
      let E = plain_node x j in
      let shape = λ (q : Option Kind). Then (index_code (context P S) d E)
      (Then (with_kind q (before_right (context P S) o at d E))
      (Then (code P most S y (right_at o d E) r) (with_kind q (after_right (context P S) o at d E)))) in
      subst (λ q. FollowsHere P most S y d (Some k) f (shape q) f top low
      (spend s (assign (meaning P) o j at x r))) (sym kinds)
      (spending P most S y (Valued S d (Some k) f) (shape (Some k)) s f top low
      (assign (meaning P) o j at x r) rl (omega arith) (λ n q rn.
      let s0 = record s { stock = n } in
      subst (λ j1. FollowsHere P most S y d (Some k) f (shape (Some k)) f top low
      (assign (meaning P) o j1 at x r s0)) (sym same)
      (assign_left o k at x j r d top low s0 f
      (λ e1 s1 le. h e1 s1 (omega arith)) ld lr t.0 t.1 t.2 rn (omega arith) (omega arith))))

  -- the code of an assignment follows the evaluation, where its parts do
  pub assign_node : (k : Option Kind) (o : Option BinaryOp) (at : Kind) (l r : TypedExpr)
      (d top low : ℕ) (s : eval.State) (f : State) → d < 16
      → ((n : ℕ) → FitsExpr (scope P S) n (expr_of r) → n < 16)
      → ((e : TypedExpr) (s1 : eval.State) → s1.stock < s.stock → FollowsOf P most e s1)
      → FitsExpr (scope P S) d (tree.Assign k o at (expr_of l) (expr_of r)) → Related S s f
      → 8 * s.stock ≤ top + 4 → low ≤ s.stock + most * f.rounds -
      (1 + (left_nodes (expr_of l) + nodes (expr_of r)))
      → FollowsHere P most S y d k f (expr_code (context P S) d
      (tree.Assign k o at (expr_of l) (expr_of r))) f top low
      (spend s (opened (meaning P) P (node.Assign o at l r)))
  assign_node k o at l r d top low s f ld lr h t rl hu hl =
      subst (λ E. FollowsHere P most S y d k f
      (expr_code (context P S) d (tree.Assign k o at E (expr_of r))) f top low
      (spend s (opened (meaning P) P (node.Assign o at l r)))) (sym (expr_is l))
      (assign_plain k o at (node_of l) l.kind r d top low s f ld lr h
      (subst (λ E. FitsExpr (scope P S) d (tree.Assign k o at E (expr_of r))) (expr_is l) t) rl hu
      (subst (λ E. low ≤ s.stock + most * f.rounds - (1 + (left_nodes E + nodes (expr_of r))))
      (expr_is l) hl))
