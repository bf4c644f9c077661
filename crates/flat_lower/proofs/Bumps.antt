-- Bumps follow the evaluation.
use Rattle.std.proofs.Common.{◌≡◌, ℕ, suc, ◌+◌, ◌-◌, ◌*◌, ◌<◌, ◌≤◌}
use Rattle.std.proofs.Common.{Option, Some, None, refl}
use Rattle.std.proofs.Common.{sym, ◌∙◌, subst, arith}
use Rattle.c_tree.specs.declared.Kind.{Kind}
use Rattle.c_tree.specs.declared.Kind.TheVariants.{ULong}
use Rattle.c_tree.specs.declared.Place.{Place}
use Rattle.c_tree.specs.declared.Place.TheVariants.{Global, Scalar, Array}
use Rattle.c_tree.specs.declared.TypedExpr.{TypedExpr}
use Rattle.c_tree.specs.declared.TypedProgram.{TypedProgram}
use Rattle.c_tree.specs.declared.TypedNode.TheOpen as node
use Rattle.c_meaning_spec.specs.declared.fault.Fault.TheVariants.{IllFormed}
use Rattle.c_meaning_spec.specs.Word.{bump_fault}
use Rattle.c_meaning_spec.specs.declared.signal.Signal.TheVariants.{Value}
use Rattle.c_meaning_spec.specs.declared.signal.Object.TheVariants.{InArray}
use Rattle.c_meaning_spec.specs.State.{spend}
use Rattle.c_meaning_spec.specs.inside.State.{then}
use Rattle.c_meaning_spec.specs.State as eval
use Rattle.c_meaning_spec.specs.Task.{element_in, element_of}
use Rattle.c_meaning_spec.specs.Expression.{opened}
use Rattle.c_meaning_spec.specs.Eval.{meaning, length_of}
use Rattle.ir_forms.specs.declared.flat.Arg.TheVariants.{Const, Var}
use Rattle.ir_forms.specs.inside.FlatCode.{Then}
use Rattle.ir_forms.specs.inside.FlatSteps.{State}
use Rattle.ir_forms.specs.inside.FlatRuns.{checked}
use Rattle.flat_lower.specs.inside.Tree.{kind_of}
use Rattle.flat_lower.specs.inside.Tree as tree
use Rattle.flat_lower.specs.inside.TreeViews.{expr_of}
use Rattle.flat_lower.specs.inside.Operations.{temp}
use Rattle.flat_lower.specs.inside.Objects.{global_at, address_code}
use Rattle.flat_lower.specs.inside.Expressions.{with_kind}
use Rattle.flat_lower.specs.inside.Expressions.{expr_code}
use Rattle.flat_lower.specs.inside.Fits.{GlobalIs, FitsWhole}
use Rattle.flat_lower.specs.inside.Fits.{FitsExpr}
use Rattle.flat_lower.proofs.Straight.{var_read}
use Rattle.flat_lower.proofs.Follows.{needed, wanted, moved}
use Rattle.flat_lower.proofs.Related.{Scene, IsScene, scope, context, object, ObjectIs, Related}
use Rattle.flat_lower.proofs.Pieces.{place_is, addressed, address_puts}
use Rattle.flat_lower.proofs.Pieces.{element_address}
use Rattle.flat_lower.proofs.Values.{ValueIs, Valued, value_at, keeps_all}
use Rattle.flat_lower.proofs.Values.{functions, base, FollowsOf, run, keeps_set}
use Rattle.flat_lower.proofs.Values.{operand, spending}
use Rattle.flat_lower.proofs.Depths.{depth_fits}
use Rattle.flat_lower.proofs.RowElements.{row_operands, row_reads}
use Rattle.flat_lower.proofs.Simple.{FollowsHere}
use Rattle.c_tree.specs.declared.BumpOp.{BumpOp}
use Rattle.c_meaning_spec.specs.State.{store, with_some}
use Rattle.c_meaning_spec.specs.Word.{bump_of, bump_value}
use Rattle.c_meaning_spec.specs.Task.{row_element_of}
use Rattle.c_tree.specs.TypedTrees.{Node, node_of}
use Rattle.c_meaning_spec.specs.Expression.{giving, bump_object, bump_element, bump}
use Rattle.flat_lower.specs.inside.Operations.{is_before}
use Rattle.flat_lower.specs.inside.Expressions.{bump_memory}
use Rattle.flat_lower.specs.inside.Expressions.{bump_element as element_bump, bump_code, index_code}
use Rattle.flat_lower.specs.inside.Fits.{FitsLeft}
use Rattle.flat_lower.specs.inside.Sizes.{left_nodes}
use Rattle.flat_lower.proofs.TreeFacts.{plain_node, expr_is, kind_levels}
use Rattle.ir_forms.proofs.Steps.{then_moves}
use Rattle.flat_lower.proofs.Simple.{element_is}
use Rattle.flat_lower.proofs.BumpedPlaces.{bumped_value, memory_bump, scalar_bump}

module _ (P : TypedProgram) (most : ℕ) (S : Scene) (y : IsScene P S) where
  -- NODES

  -- a global scalar
  global_bump : (o : BumpOp) (k : Kind) (g d top low : ℕ) (f : State) (s : eval.State) → d < 16
      → GlobalIs (scope P S) g k None None → Related S s f → 4 + 8 * s.stock ≤ top
      → low ≤ s.stock + most * f.rounds
      → FollowsHere P most S y d (Some k) f
      (bump_memory o (is_before o) (Const (global_at P.globals g)) d k) f top low
      (bump_object o (Some k) s (InArray g 0))
  global_bump o k g d top low f s ld x r hu hl =
      let q : ObjectIs S.objects g k = record {
        it = object (global_at P.globals g) x.global.kind
            (length_of x.global.length) x.global.row;
        found = y.globals g x.global x.found;
        kind = x.kind;
      } in
      memory_bump P most S y o k (Const (global_at P.globals g)) g 0 (global_at P.globals g) d top low f f s
      (is_before o) q ld (λ h e. refl) (λ lt. omega arith) (keeps_all S d s f r) hu hl
      (bumped_value o)

  -- an element, behind its index
  element_end : (o : BumpOp) (p : Place) (q : Option ℕ) (k : Kind) (j : Option Kind) (d w top low : ℕ)
      (f0 g : State) (s : eval.State) → d < 16 → FitsWhole (scope P S) k q p → ValueIs S d j f0 w s g
      → 7 + 8 * s.stock ≤ top → low ≤ s.stock + most * g.rounds
      → FollowsHere P most S y d (Some k) f0 (element_bump (context P S) o p d k) g top low
      (bump_element o (Some k) p (Value w) s)
  element_end o p q k j d w top low f0 g s ld t v hu hl =
      let a = address_code (context P S) p k 80 (temp d) in
      let b = bump_memory o (is_before o) (Var 80) d k in
      needed most (Valued S d (Some k) f0) (run P most S y (Then a b) g) top low
      (element_of p w s) _ s (bump_object o (Some k) s) (λ x ex.
      let i = element_is P most S y p k w s x ex in
      subst (λ x. FollowsHere P most S y d (Some k) f0 (Then a b) g top low
      (bump_object o (Some k) s x)) (sym i.is)
      (let z = (place_is P (functions P most)
      (base P most) S y p k q i.number s g v.keeps.rel t i.array).array in
      let at = addressed P (functions P most) (base P most) k w z.it.at in
      let pa = address_puts P (functions P most) (base P most) S y p k q i.number s g v.keeps.rel t i.array z 80
      (temp d) w (omega arith) (λ e. omega arith) (λ e. omega arith) v.is in
      let ke = keeps_set P most S y d f0 g pa.to s 80 81 at (omega arith) (omega arith)
      (omega arith) v.keeps pa.sets in
      moved most (Valued S d (Some k) f0) (run P most S y (Then a b) g)
      (run P most S y b pa.to) pa.t top low (bump_object o (Some k) s (InArray i.number w))
      (then_moves checked (functions P most) (base P most) S.env a b g pa.to pa.t pa.leads)
      (omega (arith, pa.few))
      (memory_bump P most S y o k (Var 80) i.number w at d (top - pa.t) low f0 pa.to s (is_before o) z ld
      (λ h e. var_read (functions P most) (base P most) S.env h 80 at (e ∙ pa.sets.value))
      (λ lt. element_address P (functions P most) (base P most) S y i.number w k z lt)
      ke (omega (arith, pa.few)) (subst (λ r. low ≤ s.stock + most * r) (sym pa.sets.rounds) hl)
      (bumped_value o))))

  -- one left side, by its node
  bump_left : (o : BumpOp) (k : Kind) (x : Node) (j : Option Kind) (d top low : ℕ) (s : eval.State)
      (f : State) → d < 16 → ((e : TypedExpr) (s1 : eval.State) → s1.stock ≤ s.stock
      → FollowsOf P most e s1) → FitsLeft (scope P S) d (Some k) (plain_node x j) → Related S s f
      → 8 * s.stock + 4 ≤ top → low ≤ s.stock + most * f.rounds - left_nodes (plain_node x j)
      → FollowsHere P most S y d (Some k) f
      (Then (index_code (context P S) d (plain_node x j))
      (bump_code (context P S) o d (plain_node x j) k)) f top low
      (bump (meaning P) o (Some k) x s)
  bump_left o k (node.Name (Global g)) j d top low s f ld h t r hu hl =
      global_bump o k g d top low f s ld t.1.1 r (omega arith) (omega arith)
  bump_left o k (node.Name (Scalar i)) j d top low s f ld h t r hu hl =
      scalar_bump P most S y o k i d top low f s (is_before o) ld t.1.1 r (omega arith) (omega arith)
      (bumped_value o)
  bump_left o k (node.Name (Array a)) j d top low s f ld h t r hu hl = absurd t.1.1
  bump_left o k (node.Element p None e) j d top low s f ld h t r hu hl =
      operand P most S y (Valued S d (Some k) f) e d
      (element_bump (context P S) o p d k) s f top low (bump_element o (Some k) p)
      (h e s (omega arith)) t.2 r (omega arith) (omega arith)
      (λ v s1 g t1 hv ls us ds.
      wanted most (Valued S d (Some k) f) (run P most S y (element_bump (context P S) o p d k) g)
      (top - t1) low v s1 (λ w. with_some (element_of p w s1) IllFormed s1 (bump_object o (Some k) s1))
      (λ w ew.
      element_end o p None k e.kind d w (top - t1) low f g s1 ld t.1
      (value_at S d e.kind f v w s1 g ew hv) (omega arith) (omega arith)))
  bump_left o k (node.Element p (Some row) e) j d top low s f ld h t r hu hl =
      let b = element_bump (context P S) o p d k in
      let q = t.1.0 in
      let Q = Valued S d (Some k) f in
      row_operands P most S y Q p k q row e d b s f top low
      (λ i j s. with_some (row_element_of p i j s) IllFormed s (bump_object o (Some k) s))
      (depth_fits (scope P S) (suc d) (expr_of e) t.3) h t.1.1 t.2 t.3 r (omega arith) (omega arith)
      (λ i j s2 g t1 v ls us ds.
      row_reads P most S y Q (run P most S y b g) (top - t1) low p k q i j s2 g
      (λ x old. with_some (bump_of o (Some k) old) (bump_fault o (Some k) old) s2 (λ new. then (store s2 x new)
      (giving (bump_value o old new)))) v.keeps.rel t.1.1 (λ n m en same.
      subst (λ o1. FollowsHere P most S y d (Some k) f b g (top - t1) low
      (with_some (element_in o1 m) IllFormed s2 (bump_object o (Some k) s2))) en
      (element_end o p (Some q) k (Some ULong) d m (top - t1) low f g s2 ld t.1.1
      (subst (λ w. ValueIs S d (Some ULong) f w s2 g) same v) (omega arith) (omega arith))))
  bump_left o k (node.Number w) j d top low s f ld h t r hu hl = absurd t
  bump_left o k (node.Call g args) j d top low s f ld h t r hu hl = absurd t
  bump_left o k (node.Unary u e) j d top low s f ld h t r hu hl = absurd t
  bump_left o k (node.Cast to e) j d top low s f ld h t r hu hl = absurd t
  bump_left o k (node.Convert to e) j d top low s f ld h t r hu hl = absurd t
  bump_left o k (node.Bump u e) j d top low s f ld h t r hu hl = absurd t
  bump_left o k (node.Binary u a b) j d top low s f ld h t r hu hl = absurd t
  bump_left o k (node.Choice a b c) j d top low s f ld h t r hu hl = absurd t
  bump_left o k (node.Assign u at a b) j d top low s f ld h t r hu hl = absurd t
  bump_left o k (node.Comma a b) j d top low s f ld h t r hu hl = absurd t

  -- the kind of a left side
  pub left_kind : (k : Option Kind) (x : Node) (j : Option Kind) (d : ℕ)
      → FitsLeft (scope P S) d k (plain_node x j) → j ≡ k
  left_kind k (node.Name p) j d t = t.0
  left_kind k (node.Element p None e) j d t = t.0
  left_kind k (node.Element p (Some row) e) j d t = t.0
  left_kind k (node.Number w) j d t = absurd t
  left_kind k (node.Call g args) j d t = absurd t
  left_kind k (node.Unary u e) j d t = absurd t
  left_kind k (node.Cast to e) j d t = absurd t
  left_kind k (node.Convert to e) j d t = absurd t
  left_kind k (node.Bump u e) j d t = absurd t
  left_kind k (node.Binary u a b) j d t = absurd t
  left_kind k (node.Choice a b c) j d t = absurd t
  left_kind k (node.Assign u at a b) j d t = absurd t
  left_kind k (node.Comma a b) j d t = absurd t

  -- a left side gives a value
  pub left_some : (x : Node) (j : Option Kind) (d : ℕ)
      → FitsLeft (scope P S) d None (plain_node x j) → ⊥
  left_some (node.Name p) j d t = t.1
  left_some (node.Element p None e) j d t = t.1
  left_some (node.Element p (Some row) e) j d t = t.1
  left_some (node.Number w) j d t = t
  left_some (node.Call g args) j d t = t
  left_some (node.Unary u e) j d t = t
  left_some (node.Cast to e) j d t = t
  left_some (node.Convert to e) j d t = t
  left_some (node.Bump u e) j d t = t
  left_some (node.Binary u a b) j d t = t
  left_some (node.Choice a b c) j d t = t
  left_some (node.Assign u at a b) j d t = t
  left_some (node.Comma a b) j d t = t

  bump_plain : (k : Option Kind) (o : BumpOp) (e : TypedExpr) (x : Node) (j : Option Kind)
      (d top low : ℕ) (s : eval.State) (f : State) → d < 16
      → ((e : TypedExpr) (s1 : eval.State) → s1.stock < s.stock → FollowsOf P most e s1)
      → FitsLeft (scope P S) d k (plain_node x j) → Related S s f → 8 * s.stock ≤ top + 4
      → low ≤ s.stock + most * f.rounds - (1 + left_nodes (plain_node x j))
      → FollowsHere P most S y d k f (expr_code (context P S) d (tree.Bump k o (plain_node x j))) f
      top low (spend s (bump (meaning P) o j x))
  bump_plain None o e x j d top low s f ld h t r hu hl = absurd (left_some x j d t)
  bump_plain (Some k) o e x j d top low s f ld h t r hu hl =
      let same : j ≡ Some k = left_kind (Some k) x j d t in
      let kinds : kind_of (plain_node x j) ≡ Some k = kind_levels x j ∙ same in
      let a = Then (index_code (context P S) d (plain_node x j)) (bump_code (context P S) o d (plain_node x j) k) in
      subst (λ q. FollowsHere P most S y d (Some k) f
      (Then (index_code (context P S) d (plain_node x j))
      (with_kind q (bump_code (context P S) o d (plain_node x j)))) f top low
      (spend s (bump (meaning P) o j x))) (sym kinds)
      (spending P most S y (Valued S d (Some k) f) a s f top low (bump (meaning P) o j x) r
      (omega arith) (λ n q rn.
      let s0 = record s { stock = n } in
      subst (λ j1. FollowsHere P most S y d (Some k) f a f top low (bump (meaning P) o j1 x s0))
      (sym same)
      (bump_left o k x j d top low s0 f ld (λ e1 s1 le. h e1 s1 (omega arith)) t rn (omega arith)
      (omega arith))))

  -- the code of a bump follows the evaluation, where its parts do
  pub bump_node : (k : Option Kind) (o : BumpOp) (e : TypedExpr) (d top low : ℕ) (s : eval.State)
      (f : State) → d < 16 → ((e : TypedExpr) (s1 : eval.State) → s1.stock < s.stock
      → FollowsOf P most e s1) → FitsExpr (scope P S) d (tree.Bump k o (expr_of e)) → Related S s f
      → 8 * s.stock ≤ top + 4 → low ≤ s.stock + most * f.rounds - (1 + left_nodes (expr_of e))
      → FollowsHere P most S y d k f (expr_code (context P S) d (tree.Bump k o (expr_of e))) f top
      low (spend s (opened (meaning P) P (node.Bump o e)))
  bump_node k o e d top low s f ld h t r hu hl =
      subst (λ E. FollowsHere P most S y d k f
      (expr_code (context P S) d (tree.Bump k o E)) f top low
      (spend s (opened (meaning P) P (node.Bump o e)))) (sym (expr_is e))
      (bump_plain k o e (node_of e) e.kind d top low s f ld h
      (subst (FitsLeft (scope P S) d k) (expr_is e) t) r hu
      (subst (λ E. low ≤ s.stock + most * f.rounds - (1 + left_nodes E)) (expr_is e) hl))
