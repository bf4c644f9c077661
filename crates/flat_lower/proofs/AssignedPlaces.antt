-- An assignment to a name or to an element, plain and compound.
use Rattle.std.proofs.Common.{◌≡◌, ℕ, suc, ◌+◌, ◌-◌, ◌*◌, ◌<◌, ◌≤◌}
use Rattle.std.proofs.Common.{Option, Some, None, refl}
use Rattle.std.proofs.Common.{sym, ap, ◌∙◌, subst, arith}
use Rattle.std.specs.Prelude.{slice_get}
use Rattle.c_tree.specs.declared.Kind.{Kind}
use Rattle.c_tree.specs.declared.BinaryOp.{BinaryOp}
use Rattle.c_tree.specs.declared.Place.{Place}
use Rattle.c_tree.specs.declared.Place.TheVariants.{Global}
use Rattle.c_tree.specs.declared.Slot.TheVariants as slot
use Rattle.c_tree.specs.declared.TypedExpr.{TypedExpr}
use Rattle.c_tree.specs.declared.TypedProgram.{TypedProgram}
use Rattle.c_constant.specs.Kinds.{converted}
use Rattle.c_meaning_spec.specs.Word.{compound_fault}
use Rattle.c_meaning_spec.specs.declared.signal.Signal.TheVariants.{Value}
use Rattle.c_meaning_spec.specs.declared.signal.Object.TheVariants.{InScalar, InArray}
use Rattle.c_meaning_spec.specs.State.{Result, cell, held}
use Rattle.c_meaning_spec.specs.inside.State.{then}
use Rattle.c_meaning_spec.specs.State as eval
use Rattle.c_meaning_spec.specs.Task.{Of, array_of, element_of}
use Rattle.c_meaning_spec.specs.Eval.{meaning}
use Rattle.ir_forms.specs.declared.flat.Arg.TheVariants.{Const, Var}
use Rattle.ir_forms.specs.inside.FlatCode.{Code, Then, only, Load}
use Rattle.ir_forms.specs.inside.FlatSteps.{State}
use Rattle.ir_forms.specs.inside.FlatRuns.{checked}
use Rattle.flat_lower.specs.inside.Tree.{kind_of}
use Rattle.flat_lower.specs.inside.TreeViews.{expr_of}
use Rattle.c_constant.specs.Kinds.{IsWord}
use Rattle.flat_lower.specs.inside.Operations.{temp, copied, converted_here}
use Rattle.flat_lower.specs.inside.Operations.{load_op}
use Rattle.flat_lower.specs.inside.Objects.{global_at, address_code}
use Rattle.flat_lower.specs.inside.Fits.{GlobalIs, FitsWhole}
use Rattle.flat_lower.specs.inside.Fits.{FitsExpr}
use Rattle.flat_lower.specs.inside.Sizes.{nodes}
use Rattle.flat_lower.proofs.Straight.{Puts, puts_both}
use Rattle.flat_lower.proofs.Straight.{var_read}
use Rattle.flat_lower.proofs.UnaryWorks.{here_works}
use Rattle.flat_lower.proofs.TreeFacts.{kind_is}
use Rattle.flat_lower.proofs.Follows.{Post, Follows, needed, wanted, moved}
use Rattle.flat_lower.proofs.Related.{Scene, IsScene, scope, context, ObjectIs, Related}
use Rattle.flat_lower.proofs.Related.{held_is}
use Rattle.flat_lower.proofs.Pieces.{puts_load, place_is, addressed, address_puts}
use Rattle.flat_lower.proofs.Pieces.{element_address}
use Rattle.flat_lower.proofs.Values.{ValueIs, Valued, value_at, keeps_all}
use Rattle.flat_lower.proofs.Values.{keeps_both, functions, base, FollowsOf, run, code, keeps_set}
use Rattle.flat_lower.proofs.Values.{operand}
use Rattle.flat_lower.proofs.Simple.{FollowsHere}
use Rattle.c_meaning_spec.specs.State.{store, with_some}
use Rattle.ir_forms.specs.inside.FlatCode.{Save}
use Rattle.flat_lower.specs.inside.Operations.{save_op}
use Rattle.ir_forms.proofs.Steps.{then_moves, both_lead}
use Rattle.ir_forms.specs.inside.FlatSteps.{settle}
use Rattle.flat_lower.proofs.Simple.{element_is, element_loaded}
use Rattle.flat_lower.proofs.Simple.{global_loaded}
use Rattle.c_meaning_spec.specs.Word.{compound_of}
use Rattle.c_meaning_spec.specs.Expression.{assigned, compounded, assign_to, assign_element}
use Rattle.flat_lower.specs.inside.Operations.{converted_to}
use Rattle.flat_lower.specs.inside.Expressions.{old_name, compound_code, old_element}
use Rattle.flat_lower.specs.inside.Expressions.{assign_element as element_assign}
use Rattle.flat_lower.specs.inside.Fits.{FitsCompound}
use Rattle.flat_lower.proofs.UnaryWorks.{to_works}
use Rattle.flat_lower.proofs.CompoundStores.{store_scalar, store_element, store_next, compound_scalar}
use Rattle.flat_lower.proofs.CompoundStores.{compound_element}
use Rattle.flat_lower.proofs.CompoundStores

module _ (P : TypedProgram) (most : ℕ) (S : Scene) (y : IsScene P S) where
  -- code that puts a word, and then more
  abbrev after_puts : (Q : Post) (a b : Code) (g : State) (m x spare w top low : ℕ) (r : Result)
      (p : Puts (functions P most) (base P most) S.env a g m x spare w) → m ≤ top
      → Follows most Q (run P most S y b p.to) (top - p.t) low r
      → Follows most Q (run P most S y (Then a b) g) top low r
  after_puts = CompoundStores.after_puts P most S y

  abbrev right_word : (r : TypedExpr) (k vk : Kind) (w : ℕ) → kind_of (expr_of r) ≡ Some k → r.kind ≡ Some vk
      → IsWord vk w → IsWord k w
  right_word = CompoundStores.right_word P most S y

  -- the right side's word is put into a scalar's variable
  pub scalar_plain : (i : ℕ) (k at : Kind) (r : TypedExpr) (d top low : ℕ) (s : eval.State) (f : State)
      → d < 16 → slice_get S.func.scalars i ≡ Some (slot.Scalar k) → FollowsOf P most r s
      → FitsExpr (scope P S) d (expr_of r) → kind_of (expr_of r) ≡ Some k → Related S s f
      → 8 * s.stock + 4 ≤ top → low ≤ s.stock + most * f.rounds - nodes (expr_of r)
      → FollowsHere P most S y d (Some k) f
      (Then (code P most S y d r) (copied i (temp d))) f top low
      (assign_to (meaning P) None (Some k) at r s (InScalar i))
  scalar_plain i k at r d top low s f ld ti h fits kr rl hu hl =
      operand P most S y (Valued S d (Some k) f) r d (copied i (temp d)) s f top low
      (assigned (InScalar i)) h fits rl (omega arith) hl
      (λ v s1 g t1 hv ls us ds.
      wanted most (Valued S d (Some k) f) (run P most S y (copied i (temp d)) g) (top - t1) low v s1
      (λ w. store s1 (InScalar i) w) (λ w ew.
      let x = value_at S d r.kind f v w s1 g ew hv in
      store_scalar P most S y i k d w (top - t1) low f g s1 ld ti x.keeps x.is
      (right_word r k x.kind w kr x.is_kind x.fits) (omega arith) (omega arith)))

  -- a scalar's old word and the right side's are worked on, and the result is put into its variable
  pub scalar_compound : (o : BinaryOp) (i : ℕ) (k at : Kind) (r : TypedExpr) (d top low : ℕ)
      (s : eval.State) (f : State) → suc d < 16 → slice_get S.func.scalars i ≡ Some (slot.Scalar k)
      → FollowsOf P most r s → FitsExpr (scope P S) (suc d) (expr_of r)
      → FitsCompound (Some o) at k (kind_of (expr_of r)) → Related S s f → 8 * s.stock + 4 ≤ top
      → low ≤ s.stock + most * f.rounds - nodes (expr_of r)
      → FollowsHere P most S y d (Some k) f
      (Then (converted_to (Some k) at (temp d) i)
      (Then (code P most S y (suc d) r)
      (Then (compound_code o d (suc d) at k) (copied i (temp d))))) f top low
      (assign_to (meaning P) (Some o) (Some k) at r s (InScalar i))
  scalar_compound o i k at r d top low s f ld ti h fits kr rl hu hl =
      let b = Then (compound_code o d (suc d) at k) (copied i (temp d)) in
      let a = Then (code P most S y (suc d) r) b in
      needed most (Valued S d (Some k) f)
      (run P most S y (Then (converted_to (Some k) at (temp d) i) a) f) top low
      (held (cell s (InScalar i))) _ s (λ old. then (meaning P (Of r) s)
      (compounded o (Some k) at (InScalar i) old)) (λ old eo.
      let sc = rl.scalars i old (slot.Scalar k) ti (held_is (cell s (InScalar i)) old eo) in
      let x = to_works (functions P most) (base P most) S.env k at f (temp d) i old sc.0 sc.1 in
      let g = x.puts.to in
      let k1 = keeps_set P most S y d f f g s (temp d) 80 (converted at old) (omega arith) (omega arith) (omega arith)
      (keeps_all S d s f rl) x.puts.sets in
      let hg : low ≤ s.stock + most * g.rounds - nodes (expr_of r) = subst
      (λ c. low ≤ s.stock + most * c - nodes (expr_of r)) (sym x.puts.sets.rounds) hl in
      after_puts (Valued S d (Some k) f) (converted_to (Some k) at (temp d) i) a f 1 (temp d) 80
      (converted at old) top low (then (meaning P (Of r) s)
      (compounded o (Some k) at (InScalar i) old)) x.puts (omega arith)
      (operand P most S y (Valued S d (Some k) f) r (suc d) b s g (top - x.puts.t) low
      (compounded o (Some k) at (InScalar i) old) h fits k1.rel (omega (arith, x.puts.few)) hg
      (λ v s1 g1 t1 hv ls us ds.
      wanted most (Valued S d (Some k) f) (run P most S y b g1) (top - x.puts.t - t1) low v s1
      (λ w. with_some (compound_of o (Some k) at old w) (compound_fault o (Some k) at old w) s1
      (λ u. store s1 (InScalar i) u))
      (λ w ew.
      let z = value_at S (suc d) r.kind g v w s1 g1 ew hv in
      compound_scalar P most S y o k at (kind_of (expr_of r)) i old w d
      (top - x.puts.t - t1) low f g1 s1 z.kind ld kr (kind_is r ∙ z.is_kind) z.fits ti
      (keeps_both S d (suc d) f g g1 s s1 (omega arith) k1 z.keeps)
      (z.keeps.kept d (omega arith) ∙ x.puts.sets.value) x.fits z.is (omega (arith, x.puts.few))
      (omega arith)))))

  -- to an element whose address an operand reads that no step here changes: a global scalar
  pub global_plain : (n : ℕ) (k at : Kind) (q : ObjectIs S.objects n k) (r : TypedExpr) (d top low : ℕ)
      (s : eval.State) (f : State) → d < 16 → q.it.at ≡ global_at P.globals n → FollowsOf P most r s
      → FitsExpr (scope P S) d (expr_of r) → kind_of (expr_of r) ≡ Some k → Related S s f
      → 8 * s.stock + 4 ≤ top → low ≤ s.stock + most * f.rounds - nodes (expr_of r)
      → FollowsHere P most S y d (Some k) f
      (Then (code P most S y d r) (only
      (Save (save_op k) (Const (global_at P.globals n)) (Var (temp d))))) f top low
      (assign_to (meaning P) None (Some k) at r s (InArray n 0))
  global_plain n k at q r d top low s f ld ea h fits kr rl hu hl =
      let b = only (Save (save_op k) (Const (global_at P.globals n)) (Var (temp d))) in
      operand P most S y (Valued S d (Some k) f) r d b s f top low
      (assigned (InArray n 0)) h fits rl (omega arith) hl
      (λ v s1 g t1 hv ls us ds.
      wanted most (Valued S d (Some k) f) (run P most S y b g) (top - t1) low v s1
      (λ w. store s1 (InArray n 0) w) (λ w ew.
      let x = value_at S d r.kind f v w s1 g ew hv in
      store_element P most S y (Const (global_at P.globals n)) k n 0 (global_at P.globals n) q d w
      (top - t1) low f g s1 (λ lt. omega (arith, ea)) refl x.keeps x.is
      (right_word r k x.kind w kr x.is_kind x.fits) (omega arith) (omega arith)))

  -- the same at a number in byte memory that a name means
  pub global_compound : (o : BinaryOp) (n : ℕ) (k at : Kind) (gl : GlobalIs (scope P S) n k None None)
      (q : ObjectIs S.objects n k) (r : TypedExpr) (d top low : ℕ) (s : eval.State) (f : State)
      → suc d < 16 → q.it.at ≡ global_at P.globals n → FollowsOf P most r s
      → FitsExpr (scope P S) (suc d) (expr_of r) → FitsCompound (Some o) at k (kind_of (expr_of r))
      → Related S s f → 8 * s.stock + 4 ≤ top → low ≤ s.stock + most * f.rounds - nodes (expr_of r)
      → FollowsHere P most S y d (Some k) f
      (Then (old_name (context P S) (Global n) d at k)
      (Then (code P most S y (suc d) r)
      (Then (compound_code o d (suc d) at k)
      (only (Save (save_op k) (Const (global_at P.globals n)) (Var (temp d))))))) f top low
      (assign_to (meaning P) (Some o) (Some k) at r s (InArray n 0))
  global_compound o n k at gl q r d top low s f ld ea h fits kr rl hu hl =
      let adr = global_at P.globals n in
      let b = Then (compound_code o d (suc d) at k) (only (Save (save_op k) (Const adr) (Var (temp d)))) in
      let a = Then (code P most S y (suc d) r) b in
      let l = only (Load (temp d) (load_op k) (Const adr)) in
      needed most (Valued S d (Some k) f)
      (run P most S y (Then (Then l (converted_here (Some k) at (temp d))) a) f) top low
      (held (cell s (InArray n 0))) _ s (λ old. then (meaning P (Of r) s)
      (compounded o (Some k) at (InArray n 0) old)) (λ old eo.
      let ld1 = global_loaded P most S y n old k s f gl eo rl in
      let pl = puts_load P (functions P most) (base P most) S.env (load_op k) (Const adr) f
      (temp d) 80 adr old refl ld1.0 in
      let x = here_works (functions P most) (base P most) S.env k at pl.to (temp d) old pl.sets.value ld1.1 in
      let p = puts_both (functions P most) (base P most) S.env l (converted_here (Some k) at (temp d)) f 1 1
      (temp d) 80 old (converted at old) pl x.puts in
      let g = p.to in
      let k1 = keeps_set P most S y d f f g s (temp d) 80 (converted at old) (omega arith) (omega arith) (omega arith)
      (keeps_all S d s f rl) p.sets in
      let hg : low ≤ s.stock + most * g.rounds - nodes (expr_of r) = subst
      (λ c. low ≤ s.stock + most * c - nodes (expr_of r)) (sym p.sets.rounds) hl in
      after_puts (Valued S d (Some k) f) (Then l (converted_here (Some k) at (temp d))) a f 2 (temp d) 80
      (converted at old) top low (then (meaning P (Of r) s)
      (compounded o (Some k) at (InArray n 0) old)) p (omega arith)
      (operand P most S y (Valued S d (Some k) f) r (suc d) b s g (top - p.t) low
      (compounded o (Some k) at (InArray n 0) old) h fits k1.rel (omega (arith, p.few)) hg
      (λ v s1 g1 t1 hv ls us ds.
      wanted most (Valued S d (Some k) f) (run P most S y b g1) (top - p.t - t1) low v s1
      (λ w. with_some (compound_of o (Some k) at old w) (compound_fault o (Some k) at old w) s1
      (λ u. store s1 (InArray n 0) u))
      (λ w ew.
      let z = value_at S (suc d) r.kind g v w s1 g1 ew hv in
      compound_element P most S y (Const adr) o k at (kind_of (expr_of r)) n 0 adr old w d (suc d)
      (top - p.t - t1) low q f g1 s1 z.kind (omega arith) ld kr (kind_is r ∙ z.is_kind) z.fits
      (λ lt. omega (arith, ea)) (λ h e. refl)
      (keeps_both S d (suc d) f g g1 s s1 (omega arith) k1 z.keeps)
      (z.keeps.kept d (omega arith) ∙ p.sets.value) x.fits z.is (omega (arith, p.few))
      (omega arith)))))

  -- TO AN ELEMENT

  -- the word in the temporary is the index of the object where the element is there
  pub stored_plain : (p : Place) (q : Option ℕ) (k at : Kind) (r : TypedExpr) (j : Option Kind)
      (d n w i top low : ℕ) (s : eval.State) (f0 g : State) → suc d < 16 → FitsWhole (scope P S) k q p
      → array_of p s ≡ Some n → ((o : ObjectIs S.objects n k) → i < o.it.length → w ≡ i)
      → ((s1 : eval.State) → s1.stock ≤ s.stock → FollowsOf P most r s1)
      → FitsExpr (scope P S) (suc d) (expr_of r) → kind_of (expr_of r) ≡ Some k
      → ValueIs S d j f0 w s g → 8 * s.stock + 7 ≤ top
      → low ≤ s.stock + most * g.rounds - nodes (expr_of r)
      → FollowsHere P most S y d (Some k) f0
      (Then (address_code (context P S) p k (temp d) (temp d))
      (Then (code P most S y (suc d) r) (element_assign d k))) g top low
      (assign_to (meaning P) None (Some k) at r s (InArray n i))
  stored_plain p q k at r j d n w i top low s f0 g ld t en same h fits kr v hu hl =
      let a = address_code (context P S) p k (temp d) (temp d) in
      let c = element_assign d k in
      let b = Then (code P most S y (suc d) r) c in
      let o = (place_is P (functions P most) (base P most) S y p k q n s g v.keeps.rel t en).array in
      let adr = addressed P (functions P most) (base P most) k w o.it.at in
      let pa = address_puts P (functions P most) (base P most) S y p k q n s g v.keeps.rel t en o (temp d)
      (temp d) w (omega arith) (λ e. omega arith) (λ e. omega arith) v.is in
      let g1 = pa.to in
      let k1 = keeps_set P most S y d f0 g g1 s (temp d) 81 adr (omega arith) (omega arith)
      (omega arith) v.keeps pa.sets in
      let hg : low ≤ s.stock + most * g1.rounds - nodes (expr_of r) = subst
      (λ c. low ≤ s.stock + most * c - nodes (expr_of r)) (sym pa.sets.rounds) hl in
      after_puts (Valued S d (Some k) f0) a b g 3 (temp d) 81 adr top low
      (then (meaning P (Of r) s) (assigned (InArray n i))) pa (omega arith)
      (operand P most S y (Valued S d (Some k) f0) r (suc d) c s g1 (top - pa.t) low
      (assigned (InArray n i)) (h s (omega arith)) fits k1.rel (omega (arith, pa.few)) hg
      (λ u s1 g2 t1 hv ls us ds.
      wanted most (Valued S d (Some k) f0) (run P most S y c g2) (top - pa.t - t1) low u s1
      (λ w. store s1 (InArray n i) w) (λ x ex.
      let z = value_at S (suc d) r.kind g1 u x s1 g2 ex hv in
      store_next P most S y k n i adr o d x (top - pa.t - t1) low f0 g2 s1 ld
      (λ lt. ap (λ w. addressed P (functions P most) (base P most) k w o.it.at) (same o lt)
      ∙ element_address P (functions P most) (base P most) S y n i k o lt)
      (z.keeps.kept d (omega arith) ∙ pa.sets.value)
      (keeps_both S d (suc d) f0 g1 g2 s s1 (omega arith) k1 z.keeps) z.is
      (right_word r k z.kind x kr z.is_kind z.fits) (omega (arith, pa.few)) (omega arith))))

  -- the right side's word is put into an element, behind the element's index
  pub element_plain : (p : Place) (k at : Kind) (r : TypedExpr) (j : Option Kind) (d i top low : ℕ)
      (s : eval.State) (f0 g : State) → suc d < 16 → FitsWhole (scope P S) k None p
      → ((s1 : eval.State) → s1.stock ≤ s.stock → FollowsOf P most r s1)
      → FitsExpr (scope P S) (suc d) (expr_of r) → kind_of (expr_of r) ≡ Some k
      → ValueIs S d j f0 i s g → 8 * s.stock + 7 ≤ top
      → low ≤ s.stock + most * g.rounds - nodes (expr_of r)
      → FollowsHere P most S y d (Some k) f0
      (Then (address_code (context P S) p k (temp d) (temp d))
      (Then (code P most S y (suc d) r) (element_assign d k))) g top low
      (assign_element (meaning P) None (Some k) at p r (Value i) s)
  element_plain p k at r j d i top low s f0 g ld t h fits kr v hu hl =
      let whole = Then (address_code (context P S) p k (temp d) (temp d))
      (Then (code P most S y (suc d) r) (element_assign d k)) in
      needed most (Valued S d (Some k) f0) (run P most S y whole g) top low
      (element_of p i s) _ s (assign_to (meaning P) None (Some k) at r s) (λ x ex.
      let e = element_is P most S y p k i s x ex in
      subst (λ x. FollowsHere P most S y d (Some k) f0 whole g top low
      (assign_to (meaning P) None (Some k) at r s x)) (sym e.is)
      (stored_plain p None k at r j d e.number i i top low s f0 g ld t e.array (λ o lt. refl) h fits kr v
      hu hl))

  -- an element's old word and the right side's are worked on, and the result is put there
  pub element_compound : (o : BinaryOp) (p : Place) (sz : Option ℕ) (k at : Kind) (r : TypedExpr) (j : Option Kind)
      (d i top low : ℕ) (s : eval.State) (f0 g : State) → suc (suc d) < 16 → FitsWhole (scope P S) k sz p
      → ((s1 : eval.State) → s1.stock ≤ s.stock → FollowsOf P most r s1)
      → FitsExpr (scope P S) (suc (suc d)) (expr_of r)
      → FitsCompound (Some o) at k (kind_of (expr_of r)) → ValueIs S d j f0 i s g
      → 8 * s.stock + 7 ≤ top → low ≤ s.stock + most * g.rounds - nodes (expr_of r)
      → FollowsHere P most S y d (Some k) f0
      (Then (old_element (context P S) p d at k)
      (Then (code P most S y (suc (suc d)) r)
      (Then (compound_code o d (suc (suc d)) at k)
      (only (Save (save_op k) (Var (temp (suc d))) (Var (temp d))))))) g top low
      (assign_element (meaning P) (Some o) (Some k) at p r (Value i) s)
  element_compound o p sz k at r j d i top low s f0 g ld t h fits kr v hu hl =
      let a = address_code (context P S) p k (temp (suc d)) (temp d) in
      let l = only (Load (temp d) (load_op k) (Var (temp (suc d)))) in
      let n = converted_here (Some k) at (temp d) in
      let c = Then (compound_code o d (suc (suc d)) at k)
      (only (Save (save_op k) (Var (temp (suc d))) (Var (temp d)))) in
      let b = Then (code P most S y (suc (suc d)) r) c in
      let whole = Then (Then a (Then l n)) b in
      needed most (Valued S d (Some k) f0) (run P most S y whole g) top low (element_of p i s) _ s
      (assign_to (meaning P) (Some o) (Some k) at r s) (λ x ex.
      let e = element_is P most S y p k i s x ex in
      let x0 = InArray e.number i in
      subst (λ x. FollowsHere P most S y d (Some k) f0 whole g top low
      (assign_to (meaning P) (Some o) (Some k) at r s x)) (sym e.is)
      (needed most (Valued S d (Some k) f0) (run P most S y whole g) top low
      (held (cell s (InArray e.number i))) _ s
      (λ old. then (meaning P (Of r) s) (compounded o (Some k) at (InArray e.number i) old))
      (λ old eo.
      let q = (place_is P (functions P most) (base P most) S y p k sz e.number s g v.keeps.rel t e.array).array in
      let adr = addressed P (functions P most) (base P most) k i q.it.at in
      let pa = address_puts P (functions P most) (base P most) S y p k sz e.number s g v.keeps.rel t e.array q
      (temp (suc d)) (temp d) i (omega arith) (λ e. omega arith) (λ e. omega arith) v.is in
      let g1 = pa.to in
      let k1 = keeps_set P most S y d f0 g g1 s (temp (suc d)) 81 adr (omega arith) (omega arith)
      (omega arith) v.keeps pa.sets in
      let z1 = element_loaded P most S y p k e.number i old adr s g g1 q eo v.keeps.rel refl pa.sets.memory in
      let pl = puts_load P (functions P most) (base P most) S.env (load_op k) (Var (temp (suc d))) g1
      (temp d) 80 adr old (var_read (functions P most) (base P most) S.env g1 (temp (suc d)) adr pa.sets.value)
      z1.0 in
      let xn = here_works (functions P most) (base P most) S.env k at pl.to (temp d) old pl.sets.value z1.1 in
      let pn = puts_both (functions P most) (base P most) S.env l n g1 1 1 (temp d) 80 old
      (converted at old) pl xn.puts in
      let g2 = pn.to in
      let k2 = keeps_set P most S y d f0 g1 g2 s (temp d) 80 (converted at old) (omega arith) (omega arith)
      (omega arith) k1 pn.sets in
      let adr2 : g2.vars (temp (suc d)) ≡ Some adr = pn.sets.others (temp (suc d)) (λ e. omega arith)
      (λ e. omega arith) ∙ pa.sets.value in
      let rounds2 : g2.rounds ≡ g.rounds = pn.sets.rounds ∙ pa.sets.rounds in
      let hg : low ≤ s.stock + most * g2.rounds - nodes (expr_of r) = subst
      (λ c. low ≤ s.stock + most * c - nodes (expr_of r)) (sym rounds2) hl in
      let lead = both_lead checked (functions P most) (base P most) S.env a (Then l n) g g1 pa.t pn.t
      (settle g2) pa.leads pn.leads in
      moved most (Valued S d (Some k) f0) (run P most S y whole g) (run P most S y b g2)
      (pa.t + pn.t) top low (then (meaning P (Of r) s)
      (compounded o (Some k) at (InArray e.number i) old))
      (then_moves checked (functions P most) (base P most) S.env (Then a (Then l n)) b g g2
      (pa.t + pn.t) lead) (omega (arith, pa.few, pn.few))
      (operand P most S y (Valued S d (Some k) f0) r (suc (suc d)) c s g2 (top - (pa.t + pn.t)) low
      (compounded o (Some k) at (InArray e.number i) old) (h s (omega arith)) fits k2.rel
      (omega (arith, pa.few, pn.few)) hg
      (λ u s1 g3 t1 hv ls us ds.
      wanted most (Valued S d (Some k) f0) (run P most S y c g3) (top - (pa.t + pn.t) - t1) low u s1
      (λ w. with_some (compound_of o (Some k) at old w) (compound_fault o (Some k) at old w) s1
      (λ u. store s1 (InArray e.number i) u))
      (λ w ew.
      let z = value_at S (suc (suc d)) r.kind g2 u w s1 g3 ew hv in
      let adr3 : g3.vars (temp (suc d)) ≡ Some adr = z.keeps.kept (suc d) (omega arith) ∙ adr2 in
      compound_element P most S y (Var (temp (suc d))) o k at (kind_of (expr_of r)) e.number i adr old w d
      (suc (suc d)) (top - (pa.t + pn.t) - t1) low q f0 g3 s1 z.kind (omega arith) ld kr
      (kind_is r ∙ z.is_kind) z.fits (λ lt. element_address P (functions P most)
      (base P most) S y e.number i k q lt)
      (λ h same. var_read (functions P most) (base P most) S.env h (temp (suc d)) adr
      (same (temp (suc d)) (λ e. omega arith) (λ e. omega arith) ∙ adr3))
      (keeps_both S d (suc (suc d)) f0 g2 g3 s s1 (omega arith) k2 z.keeps)
      (z.keeps.kept d (omega arith) ∙ pn.sets.value) xn.fits z.is (omega (arith, pa.few, pn.few))
      (omega arith)))))))
