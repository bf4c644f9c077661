-- A word is stored to a scalar or an element, and a compound assignment's operation is done on the old value.
use Rattle.std.proofs.Common.{◌≡◌, ◌≢◌, ℕ, suc, ◌+◌, ◌-◌, ◌*◌, ◌<◌, ◌≤◌}
use Rattle.std.proofs.Common.{Option, Some, None, refl}
use Rattle.std.proofs.Common.{sym, ◌∙◌, subst, arith}
use Rattle.std.specs.Prelude.{slice_get}
use Rattle.c_tree.specs.declared.Kind.{Kind}
use Rattle.c_tree.specs.declared.BinaryOp.{BinaryOp}
use Rattle.c_tree.specs.declared.BinaryOp.TheVariants.{LogicalOr, LogicalAnd}
use Rattle.c_tree.specs.declared.Slot.TheVariants as slot
use Rattle.c_tree.specs.declared.TypedExpr.{TypedExpr}
use Rattle.c_tree.specs.declared.TypedProgram.{TypedProgram}
use Rattle.c_constant.specs.Kinds.{converted}
use Rattle.c_constant.specs.Operation.{operate}
use Rattle.c_meaning_spec.specs.Word.{compound_fault}
use Rattle.c_meaning_spec.specs.declared.signal.Signal.TheVariants.{Value}
use Rattle.c_meaning_spec.specs.declared.signal.Object.{Object}
use Rattle.c_meaning_spec.specs.declared.signal.Object.TheVariants.{InScalar, InArray}
use Rattle.c_meaning_spec.specs.State.{Result, Go, cell}
use Rattle.c_meaning_spec.specs.State as eval
use Rattle.trips_isa.specs.declared.op.Op.TheVariants as op
use Rattle.ir_forms.specs.declared.flat.Arg.TheVariants.{Const, Var}
use Rattle.ir_forms.specs.inside.FlatCode.{Code, Then, only}
use Rattle.ir_forms.specs.inside.Cells.{apply}
use Rattle.ir_forms.specs.inside.FlatSteps.{State, read}
use Rattle.ir_forms.specs.inside.FlatRuns.{checked}
use Rattle.flat_lower.specs.inside.Tree.{kind_of}
use Rattle.flat_lower.specs.inside.TreeViews.{expr_of}
use Rattle.c_constant.specs.Kinds.{IsWord}
use Rattle.flat_lower.specs.inside.Operations.{temp, copied, converted_here}
use Rattle.flat_lower.specs.inside.Operations.{binary_code}
use Rattle.flat_lower.specs.inside.Fits.{FitsStrict}
use Rattle.flat_lower.proofs.Straight.{Puts, puts_let, puts_both, puts_as}
use Rattle.flat_lower.proofs.Straight.{var_read}
use Rattle.flat_lower.proofs.OperationWorks.{IsStrict, Works, binary_works}
use Rattle.flat_lower.proofs.UnaryWorks.{here_works}
use Rattle.flat_lower.proofs.Objects.{element_at}
use Rattle.flat_lower.proofs.TreeFacts.{kind_is}
use Rattle.flat_lower.proofs.Follows.{Post, Follows, needed, moved}
use Rattle.flat_lower.proofs.Related.{Scene, IsScene, ObjectIs}
use Rattle.flat_lower.proofs.Related.{element_within}
use Rattle.flat_lower.proofs.Values.{KeptIs, Valued}
use Rattle.flat_lower.proofs.Values.{functions, base, run, keeps_set}
use Rattle.flat_lower.proofs.Simple.{FollowsHere}
use Rattle.c_meaning_spec.specs.State.{written, store, with_some}
use Rattle.ir_forms.specs.declared.flat.Arg.{Arg}
use Rattle.ir_forms.specs.inside.FlatCode.{Save}
use Rattle.ir_forms.specs.inside.FlatSteps.{with_memory}
use Rattle.flat_lower.specs.inside.Operations.{save_op}
use Rattle.flat_lower.proofs.Objects.{put_element}
use Rattle.ir_forms.proofs.Steps.{then_moves}
use Rattle.flat_lower.proofs.Objects.{within_row}
use Rattle.flat_lower.proofs.Related.{element_saved}
use Rattle.flat_lower.proofs.Stores.{scalar_sets, element_saves, put_reaches, both_reach}
use Rattle.flat_lower.proofs.Stores.{save_reaches}
use Rattle.c_meaning_spec.specs.State.{store_in}
use Rattle.c_meaning_spec.specs.Word.{converted_if, compound_of}
use Rattle.flat_lower.specs.inside.Expressions.{compound_code}
use Rattle.flat_lower.specs.inside.Expressions.{assign_element as element_assign}
use Rattle.flat_lower.specs.inside.Fits.{FitsCompound}
use Rattle.flat_lower.proofs.Binary.{right_fits}
use Rattle.flat_lower.proofs.BumpedPlaces.{value_reached}

-- what follows of a store holds where the object is there
module _ (P : TypedProgram) (most : ℕ) (S : Scene) (y : IsScene P S) where
  pub storing : (d : ℕ) (k : Option Kind) (f0 g : State) (a : Code) (top low : ℕ) (s : eval.State)
      (x : Object) (w : ℕ) → ((c : Option ℕ) → cell s x ≡ Some c
      → FollowsHere P most S y d k f0 a g top low (Go (Value w) (written s x (Some w))))
      → FollowsHere P most S y d k f0 a g top low (store s x w)
  storing d k f0 g a top low s x w h = go (cell s x) refl
    where
      go : (o : Option (Option ℕ)) → cell s x ≡ o
          → FollowsHere P most S y d k f0 a g top low (store_in o s x w)
      go None e = tt
      go (Some c) e = h c e

  -- to a scalar's variable, from temporary d
  pub store_scalar : (i : ℕ) (k : Kind) (d w top low : ℕ) (f0 g : State) (s : eval.State) → d < 16
      → slice_get S.func.scalars i ≡ Some (slot.Scalar k) → KeptIs S d f0 s g
      → g.vars (temp d) ≡ Some w → IsWord k w → 1 + 8 * s.stock ≤ top
      → low ≤ s.stock + most * g.rounds
      → FollowsHere P most S y d (Some k) f0 (copied i (temp d)) g top low (store s (InScalar i) w)
  unfolding apply
  store_scalar i k d w top low f0 g s ld t ke is fits hu hl =
      storing d (Some k) f0 g (copied i (temp d)) top low s (InScalar i) w (λ c ec.
      let few : i < 64 = omega (arith, within_row S.func.scalars i (slot.Scalar k) t, y.few) in
      let p = puts_let (functions P most) (base P most) S.env op.Mov (Var (temp d)) (Const 0) g 1 i 82 w 0 w
      (omega arith) (var_read (functions P most) (base P most) S.env g (temp d) w is) refl refl in
      value_reached P most S y d (Some k) f0 g p.to (copied i (temp d)) 1 w top low
      (written s (InScalar i) (Some w)) k refl fits
      (put_reaches P most S y (copied i (temp d)) g 1 i 82 w p)
      p.sets.rounds (scalar_sets P most S y s g p.to i 82 w k c t ec fits
      (omega arith) p.sets ke.rel)
      (λ j l. p.sets.others (temp j) (λ e. omega arith) (λ e. omega arith) ∙ ke.kept j l)
      (p.sets.others (temp d) (λ e. omega arith) (λ e. omega arith) ∙ is) hu hl)

  -- to an element at an address that an operand reads, from temporary d
  pub store_element : (A : Arg) (k : Kind) (n i at : ℕ) (q : ObjectIs S.objects n k) (d w top low : ℕ)
      (f0 g : State) (s : eval.State) → (i < q.it.length → at ≡ element_at q.it i)
      → read checked g A ≡ Some at → KeptIs S d f0 s g → g.vars (temp d) ≡ Some w → IsWord k w
      → 1 + 8 * s.stock ≤ top → low ≤ s.stock + most * g.rounds
      → FollowsHere P most S y d (Some k) f0 (only (Save (save_op k) A (Var (temp d)))) g top low
      (store s (InArray n i) w)
  store_element A k n i at q d w top low f0 g s ea hA ke is fits hu hl =
      storing d (Some k) f0 g (only (Save (save_op k) A (Var (temp d)))) top low s (InArray n i) w
      (λ c ec.
      let lt = element_within S s g n i c k q ec ke.rel in
      let sv = element_saves P most S y k n i at w c s g q ec ke.rel (ea lt) in
      let m = put_element q.it g.memory i w in
      let rs = save_reaches P most S y k A (temp d) at w g m hA (var_read (functions P most) (base P most) S.env g
      (temp d) w is) sv in
      value_reached P most S y d (Some k) f0 g (with_memory g m)
      (only (Save (save_op k) A (Var (temp d)))) 1 w top low
      (written s (InArray n i) (Some w)) k refl fits rs refl
      (element_saved S y s g n i w c k q ec (subst (λ k. IsWord k w) (sym q.kind) fits) ke.rel)
      ke.kept is hu hl)

  -- the same from the next temporary, whose word is then copied
  pub store_next : (k : Kind) (n i at : ℕ) (q : ObjectIs S.objects n k) (d w top low : ℕ) (f0 g : State)
      (s : eval.State) → suc d < 16 → (i < q.it.length → at ≡ element_at q.it i)
      → g.vars (temp d) ≡ Some at → KeptIs S d f0 s g → g.vars (temp (suc d)) ≡ Some w → IsWord k w
      → 2 + 8 * s.stock ≤ top → low ≤ s.stock + most * g.rounds
      → FollowsHere P most S y d (Some k) f0 (element_assign d k) g top low
      (store s (InArray n i) w)
  unfolding apply
  store_next k n i at q d w top low f0 g s ld ea hat ke is fits hu hl =
      let sv1 = only (Save (save_op k) (Var (temp d)) (Var (temp (suc d)))) in
      storing d (Some k) f0 g (element_assign d k) top low s (InArray n i) w (λ c ec.
      let lt = element_within S s g n i c k q ec ke.rel in
      let sv = element_saves P most S y k n i at w c s g q ec ke.rel (ea lt) in
      let m = put_element q.it g.memory i w in
      let h = with_memory g m in
      let rs = save_reaches P most S y k (Var (temp d)) (temp (suc d)) at w g m
      (var_read (functions P most) (base P most) S.env g (temp d) at hat)
      (var_read (functions P most) (base P most) S.env g (temp (suc d)) w is) sv in
      let rh = element_saved S y s g n i w c k q ec (subst (λ k. IsWord k w) (sym q.kind) fits) ke.rel in
      let k1 : KeptIs S d f0 (written s (InArray n i) (Some w)) h = record { rel = rh; kept = ke.kept } in
      let p = puts_let (functions P most) (base P most) S.env op.Mov (Var (temp (suc d))) (Const 0) h 1
      (temp d) 82 w 0 w (omega arith) (var_read (functions P most) (base P most) S.env h (temp (suc d)) w is) refl
      refl in
      let k2 = keeps_set P most S y d f0 h p.to (written s (InArray n i) (Some w)) (temp d) 82 w (omega arith)
      (omega arith) (omega arith) k1 p.sets in
      value_reached P most S y d (Some k) f0 g p.to (element_assign d k) 2 w top low
      (written s (InArray n i) (Some w)) k refl fits
      (both_reach P most S y sv1 (copied (temp d) (temp (suc d))) g h p.to 1 1 rs
      (put_reaches P most S y (copied (temp d) (temp (suc d))) h 1 (temp d) 82 w p))
      p.sets.rounds k2.rel k2.kept p.sets.value hu hl)

  -- COMPOUND ASSIGNMENTS

  -- an operation at a type, and the conversion of its result
  pub record Compounded (o : BinaryOp) (k at : Kind) (old b w : ℕ) : Type 0 where
    pub middle : ℕ
    pub done : operate o at (converted at old) b ≡ Some middle
    pub is : converted k middle ≡ w

  compound_is : (o : BinaryOp) (k at : Kind) (old b w : ℕ)
      → compound_of o (Some k) at old b ≡ Some w → Compounded o k at old b w
  compound_is o k at old b w h = go (operate o at (converted at old) b) refl h
    where
      go : (m : Option ℕ) → operate o at (converted at old) b ≡ m → converted_if k m ≡ Some w
          → Compounded o k at old b w
      go None e h = absurd (cc h)
      go (Some m) e h = record { middle = m; done = e; is = cc }

  compound_strict : (o : BinaryOp) (at k : Kind) (r : Option Kind) → FitsCompound (Some o) at k r
      → IsStrict (functions P most) (base P most) S.env o × FitsStrict o at r at
  compound_strict LogicalOr at k r h = absurd h
  compound_strict LogicalAnd at k r h = absurd h
  compound_strict _ at k r h = (tt, h)

  -- the operation's code, where the converted old value stands in temporary d and the right side's
  -- in temporary z
  compound_puts : (o : BinaryOp) (k at : Kind) (r : Option Kind) (old b w d z kr : ℕ) (g : State)
      (vk : Kind) → FitsCompound (Some o) at k r → r ≡ Some vk → IsWord vk b → d < 16 → z < 16
      → IsWord at (converted at old) → g.vars (temp d) ≡ Some (converted at old)
      → g.vars (temp z) ≡ Some b → compound_of o (Some k) at old b ≡ Some w
      → Works (functions P most) (base P most) S.env (compound_code o d z at k) g 4 (temp d) 80 w k
  compound_puts o k at r old b w d z kr g vk t hr fb ld lz fo hd hz h =
      let c = compound_is o k at old b w h in
      let st = compound_strict o at k r t in
      let x = binary_works (functions P most) (base P most) S.env o at g (temp d) (temp z)
      (converted at old) b c.middle st.0 st.1.0 (λ e. omega arith) (λ e. omega arith) hd hz fo
      (right_fits P most S y o at r vk b hr st.1.1 fb) c.done in
      let z2 = here_works (functions P most) (base P most) S.env at k x.puts.to
      (temp d) c.middle x.puts.sets.value (subst (λ k. IsWord k c.middle) (sym st.1.2) x.fits) in
      record {
        puts = puts_as (functions P most) (base P most) S.env (compound_code o d z at k) g 4
            (temp d) 80 (converted k c.middle) w c.is
            (puts_both (functions P most) (base P most) S.env (binary_code o at (temp d) (temp z))
            (converted_here (Some at) k (temp d)) g 3 1 (temp d) 80 c.middle
            (converted k c.middle) x.puts z2.puts);
        fits = subst (IsWord k) c.is z2.fits;
      }

  -- code that puts a word, and then more
  pub after_puts : (Q : Post) (a b : Code) (g : State) (m x spare w top low : ℕ) (r : Result)
      (p : Puts (functions P most) (base P most) S.env a g m x spare w) → m ≤ top
      → Follows most Q (run P most S y b p.to) (top - p.t) low r
      → Follows most Q (run P most S y (Then a b) g) top low r
  after_puts Q a b g m x spare w top low r p le h =
      moved most Q (run P most S y (Then a b) g) (run P most S y b p.to) p.t top low r
      (then_moves checked (functions P most) (base P most) S.env a b g p.to p.t p.leads)
      (omega (arith, p.few)) h

  -- from an old value and a right side in temporaries, a compound assignment to a scalar goes on to its end
  pub compound_scalar : (o : BinaryOp) (k at : Kind) (r : Option Kind) (i old b d top low : ℕ)
      (f0 g : State) (s : eval.State) (vk : Kind) → suc d < 16 → FitsCompound (Some o) at k r
      → r ≡ Some vk → IsWord vk b → slice_get S.func.scalars i ≡ Some (slot.Scalar k)
      → KeptIs S d f0 s g → g.vars (temp d) ≡ Some (converted at old) → IsWord at (converted at old)
      → g.vars (temp (suc d)) ≡ Some b → 5 + 8 * s.stock ≤ top → low ≤ s.stock + most * g.rounds
      → FollowsHere P most S y d (Some k) f0
      (Then (compound_code o d (suc d) at k) (copied i (temp d))) g top low
      (with_some (compound_of o (Some k) at old b) (compound_fault o (Some k) at old b) s (λ w. store s (InScalar i) w))
  compound_scalar o k at r i old b d top low f0 g s vk ld t hr fb ti ke hd fo hz hu hl =
      needed most (Valued S d (Some k) f0)
      (run P most S y (Then (compound_code o d (suc d) at k) (copied i (temp d))) g) top low
      (compound_of o (Some k) at old b) _ s (λ w. store s (InScalar i) w) (λ w ew.
      let x = compound_puts o k at r old b w d (suc d) 0 g vk t hr fb (omega arith) ld fo hd hz ew in
      let k2 = keeps_set P most S y d f0 g x.puts.to s (temp d) 80 w (omega arith) (omega arith)
      (omega arith) ke x.puts.sets in
      after_puts (Valued S d (Some k) f0) (compound_code o d (suc d) at k) (copied i (temp d)) g 4
      (temp d) 80 w top low (store s (InScalar i) w) x.puts (omega arith)
      (store_scalar i k d w (top - x.puts.t) low f0 x.puts.to s
      (omega arith) ti k2 x.puts.sets.value x.fits (omega (arith, x.puts.few))
      (subst (λ r. low ≤ s.stock + most * r) (sym x.puts.sets.rounds) hl)))

  -- the same to an element at an address that an operand reads
  pub compound_element : (A : Arg) (o : BinaryOp) (k at : Kind) (r : Option Kind)
      (n i adr old b d z top low : ℕ) (q : ObjectIs S.objects n k) (f0 g : State) (s : eval.State)
      (vk : Kind) → d < 16 → z < 16 → FitsCompound (Some o) at k r → r ≡ Some vk → IsWord vk b
      → (i < q.it.length → adr ≡ element_at q.it i)
      → ((h : State) → ((v : ℕ) → v ≢ temp d → v ≢ 80 → h.vars v ≡ g.vars v)
      → read checked h A ≡ Some adr) → KeptIs S d f0 s g → g.vars (temp d) ≡ Some (converted at old)
      → IsWord at (converted at old) → g.vars (temp z) ≡ Some b → 5 + 8 * s.stock ≤ top
      → low ≤ s.stock + most * g.rounds
      → FollowsHere P most S y d (Some k) f0
      (Then (compound_code o d z at k) (only (Save (save_op k) A (Var (temp d))))) g top low
      (with_some (compound_of o (Some k) at old b) (compound_fault o (Some k) at old b) s
      (λ w. store s (InArray n i) w))
  compound_element A o k at r n i adr old b d z top low q f0 g s vk ld lz t hr fb ea hA ke hd fo hz
      hu hl =
      let sv = only (Save (save_op k) A (Var (temp d))) in
      needed most (Valued S d (Some k) f0)
      (run P most S y (Then (compound_code o d z at k) sv) g) top low
      (compound_of o (Some k) at old b) _ s (λ w. store s (InArray n i) w) (λ w ew.
      let x = compound_puts o k at r old b w d z 0 g vk t hr fb ld lz fo hd hz ew in
      let k2 = keeps_set P most S y d f0 g x.puts.to s (temp d) 80 w (omega arith) (omega arith)
      (omega arith) ke x.puts.sets in
      after_puts (Valued S d (Some k) f0) (compound_code o d z at k) sv g 4 (temp d) 80 w top low
      (store s (InArray n i) w) x.puts (omega arith)
      (store_element A k n i adr q d w (top - x.puts.t) low f0 x.puts.to s ea
      (hA x.puts.to x.puts.sets.others) k2 x.puts.sets.value x.fits (omega (arith, x.puts.few))
      (subst (λ r. low ≤ s.stock + most * r) (sym x.puts.sets.rounds) hl)))

  -- TO A NAME

  -- a right side's word is one of the kind of its plain tree
  pub right_word : (r : TypedExpr) (k vk : Kind) (w : ℕ) → kind_of (expr_of r) ≡ Some k
      → r.kind ≡ Some vk → IsWord vk w → IsWord k w
  right_word r k vk w h e f = subst (λ k. IsWord k w) (cc (sym e ∙ sym (kind_is r) ∙ h)) f
