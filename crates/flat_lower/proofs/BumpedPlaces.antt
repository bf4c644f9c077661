-- A bump of a scalar and of a number in byte memory.
use Rattle.std.proofs.Common.{◌≡◌, ℕ, ◌+◌, ◌*◌, ◌<◌, ◌≤◌, Bool, true}
use Rattle.std.proofs.Common.{false, cond, Option, Some, refl}
use Rattle.std.proofs.Common.{sym, ap, ◌∙◌, subst, arith}
use Rattle.std.specs.Prelude.{slice_get}
use Rattle.c_tree.specs.declared.Kind.{Kind}
use Rattle.c_tree.specs.declared.Slot.TheVariants as slot
use Rattle.c_tree.specs.declared.TypedProgram.{TypedProgram}
use Rattle.c_meaning_spec.specs.Word.{bump_fault}
use Rattle.c_meaning_spec.specs.declared.signal.Signal.TheVariants.{Value}
use Rattle.c_meaning_spec.specs.declared.signal.Object.{Object}
use Rattle.c_meaning_spec.specs.declared.signal.Object.TheVariants.{InScalar, InArray}
use Rattle.c_meaning_spec.specs.State.{Go, cell, held}
use Rattle.c_meaning_spec.specs.inside.State.{then}
use Rattle.c_meaning_spec.specs.State as eval
use Rattle.trips_isa.specs.declared.op.Op.TheVariants as op
use Rattle.ir_forms.specs.declared.flat.Arg.TheVariants.{Const, Var}
use Rattle.ir_forms.specs.inside.FlatCode.{Code, Then, only, Load}
use Rattle.ir_forms.specs.inside.Cells.{apply}
use Rattle.ir_forms.specs.inside.Cells as cells
use Rattle.ir_forms.specs.inside.FlatSteps.{State, read}
use Rattle.ir_forms.specs.inside.FlatRuns.{checked}
use Rattle.c_constant.specs.Kinds.{IsWord}
use Rattle.flat_lower.specs.inside.Operations.{temp, copied}
use Rattle.flat_lower.specs.inside.Operations.{load_op}
use Rattle.flat_lower.proofs.Straight.{Puts, puts_let}
use Rattle.flat_lower.proofs.Straight.{var_read}
use Rattle.flat_lower.proofs.Objects.{element_at}
use Rattle.flat_lower.proofs.Follows.{needed}
use Rattle.flat_lower.proofs.Related.{Scene, IsScene, ObjectIs, Related}
use Rattle.flat_lower.proofs.Related.{element_holds, element_within, held_is}
use Rattle.flat_lower.proofs.Pieces.{puts_load}
use Rattle.flat_lower.proofs.Values.{KeptIs, Valued, keeps_all}
use Rattle.flat_lower.proofs.Values.{functions, base, run, keeps_set}
use Rattle.flat_lower.proofs.Simple.{FollowsHere}
use Rattle.c_tree.specs.declared.BumpOp.{BumpOp}
use Rattle.c_tree.specs.declared.BumpOp.TheVariants.{PreInc, PreDec, PostInc, PostDec}
use Rattle.c_meaning_spec.specs.State.{written, store, with_some}
use Rattle.c_meaning_spec.specs.Word.{bump_of, bump_value}
use Rattle.c_meaning_spec.specs.Expression.{giving, bump_object}
use Rattle.ir_forms.specs.declared.flat.Arg.{Arg}
use Rattle.ir_forms.specs.inside.FlatCode.{Save}
use Rattle.ir_forms.specs.inside.FlatSteps.{with_memory}
use Rattle.flat_lower.specs.inside.Operations.{bumped, is_before, save_op}
use Rattle.flat_lower.specs.inside.Expressions.{bump_scalar, bump_memory}
use Rattle.flat_lower.proofs.BumpWorks.{bump_works}
use Rattle.flat_lower.proofs.Objects.{put_element}
use Rattle.flat_lower.proofs.Objects.{within_row}
use Rattle.flat_lower.proofs.Related.{element_saved}
use Rattle.flat_lower.proofs.Stores.{scalar_sets, element_saves, Reaches, put_reaches, both_reach}
use Rattle.flat_lower.proofs.Stores.{save_reaches, store_is}

-- which value a bump gives
pub bumped_value : (o : BumpOp) (old new : ℕ) → bump_value o old new ≡ cond (is_before o) new old
bumped_value PreInc old new = refl
bumped_value PreDec old new = refl
bumped_value PostInc old new = refl
bumped_value PostDec old new = refl

module _ (P : TypedProgram) (most : ℕ) (S : Scene) (y : IsScene P S) where
  -- a run that comes to a related state with the value in temporary d
  pub value_reached : (d : ℕ) (k : Option Kind) (f0 g h : State) (a : Code) (m w top low : ℕ)
      (s : eval.State) (kind : Kind) → k ≡ Some kind → IsWord kind w → Reaches P most S y a g m h
      → h.rounds ≡ g.rounds → Related S s h → ((j : ℕ) → j < d → h.vars (temp j) ≡ f0.vars (temp j))
      → h.vars (temp d) ≡ Some w → m + 8 * s.stock ≤ top → low ≤ s.stock + most * g.rounds
      → FollowsHere P most S y d k f0 a g top low (Go (Value w) s)
  value_reached d k f0 g h a m w top low s kind hk fits p hr r kept is hu hl =
      let few = p.few in
      record {
        t = p.t;
        to = h;
        upper = omega arith;
        lower = subst (λ r. low ≤ s.stock + most * r) (sym hr) hl;
        holds = record {
          keeps = record { rel = r; kept = kept };
          kind = kind;
          is_kind = hk;
          fits = fits;
          is = is;
        };
        leads = p.leads;
      }

  -- a store's value and what is given after it
  given_after : (s : eval.State) (x : Object) (c : Option ℕ) (w v : ℕ) → cell s x ≡ Some c
      → then (store s x w) (giving v) ≡ Go (Value v) (written s x (Some w))
  given_after s x c w v h = ap (λ r. then r (giving v)) (store_is s x c w h)

  -- IN BYTE MEMORY

  -- an element whose address `at` an operand reads, as long as variable 80 stays
  pub memory_bump : (o : BumpOp) (k : Kind) (A : Arg) (n w at d top low : ℕ) (f0 g : State)
      (s : eval.State) (b : Bool) (q : ObjectIs S.objects n k) → d < 16
      → ((h : State) → h.vars 80 ≡ g.vars 80 → read checked h A ≡ Some at)
      → (w < q.it.length → at ≡ element_at q.it w) → KeptIs S d f0 s g → 4 + 8 * s.stock ≤ top
      → low ≤ s.stock + most * g.rounds → ((old new : ℕ) → bump_value o old new ≡ cond b new old)
      → FollowsHere P most S y d (Some k) f0 (bump_memory o b A d k) g top low
      (bump_object o (Some k) s (InArray n w))
  memory_bump o k A n w at d top low f0 g s b q ld hA he ke hu hl hv =
      needed most (Valued S d (Some k) f0) (run P most S y (bump_memory o b A d k) g) top low
      (held (cell s (InArray n w))) _ s (λ old. with_some (bump_of o (Some k) old) (bump_fault o (Some k) old) s
      (λ new. then (store s (InArray n w) new) (giving (bump_value o old new)))) (λ old eo.
      needed most (Valued S d (Some k) f0) (run P most S y (bump_memory o b A d k) g) top low
      (bump_of o (Some k) old) _ s (λ new. then (store s (InArray n w) new)
      (giving (bump_value o old new))) (λ new en.
      let c = held_is (cell s (InArray n w)) old eo in
      subst (λ r. FollowsHere P most S y d (Some k) f0 (bump_memory o b A d k) g top low r)
      (sym (ap (λ v. then (store s (InArray n w) new) (giving v)) (hv old new)
      ∙ given_after s (InArray n w) (Some old) new (cond b new old) c))
      (go b old new eo en c)))
    where
      go : (b : Bool) (old new : ℕ) → held (cell s (InArray n w)) ≡ Some old
          → bump_of o (Some k) old ≡ Some new → cell s (InArray n w) ≡ Some (Some old)
          → FollowsHere P most S y d (Some k) f0 (bump_memory o b A d k) g top low
          (Go (Value (cond b new old)) (written s (InArray n w) (Some new)))
      go b old new eo en c =
          let lt = element_within S s g n w (Some old) k q c ke.rel in
          let ea = he lt in
          let v = element_holds S s g n w old k q eo ke.rel in
          let hl1 : cells.load checked (load_op k) g.memory at ≡ Some old =
          ap (λ k. cells.load checked (load_op k) g.memory at) (sym q.kind)
          ∙ ap (cells.load checked (load_op q.it.kind) g.memory) ea ∙ v.loaded in
          let fo : IsWord k old = subst (λ k. IsWord k old) q.kind v.fits in
          let pl = puts_load P (functions P most) (base P most) S.env (load_op k) A g (temp d) 82 at old
          (hA g refl) hl1 in
          rest b old new c ea fo en pl
        where
          rest : (b : Bool) (old new : ℕ) → cell s (InArray n w) ≡ Some (Some old)
              → at ≡ element_at q.it w → IsWord k old → bump_of o (Some k) old ≡ Some new
              → (pl : Puts (functions P most) (base P most) S.env
              (only (Load (temp d) (load_op k) A)) g 1 (temp d) 82 old)
              → FollowsHere P most S y d (Some k) f0 (bump_memory o b A d k) g top low
              (Go (Value (cond b new old)) (written s (InArray n w) (Some new)))
          rest true old new c ea fo en pl =
              let pb = bump_works (functions P most) (base P most) S.env o k pl.to 82 (temp d)
              (temp d) old new pl.sets.value fo.below en in
              let h = pb.puts.to in
              let v80 : h.vars 80 ≡ g.vars 80 = pb.puts.sets.others 80 (λ e. omega arith) (λ e. omega arith)
              ∙ pl.sets.others 80 (λ e. omega arith) (λ e. omega arith) in
              let k1 = keeps_set P most S y d f0 g pl.to s (temp d) 82 old (omega arith) (omega arith)
              (omega arith) ke pl.sets in
              let k2 = keeps_set P most S y d f0 pl.to h s (temp d) 82 new (omega arith) (omega arith)
              (omega arith) k1 pb.puts.sets in
              let sv = element_saves P most S y k n w at new (Some old) s h q c k2.rel ea in
              let m = put_element q.it h.memory w new in
              let rs = save_reaches P most S y k A (temp d) at new h m (hA h v80)
              (var_read (functions P most) (base P most) S.env h (temp d) new pb.puts.sets.value) sv in
              value_reached d (Some k) f0 g (with_memory h m)
              (bump_memory o true A d k) 4 new top low
              (written s (InArray n w) (Some new)) k refl pb.fits
              (both_reach P most S y (only (Load (temp d) (load_op k) A))
              (Then (bumped o k (temp d) (temp d)) (only (Save (save_op k) A (Var (temp d))))) g
              pl.to (with_memory h m) 1 3
              (put_reaches P most S y (only (Load (temp d) (load_op k) A)) g 1 (temp d) 82 old pl)
              (both_reach P most S y (bumped o k (temp d) (temp d))
              (only (Save (save_op k) A (Var (temp d)))) pl.to h (with_memory h m) 2 1
              (put_reaches P most S y (bumped o k (temp d) (temp d)) pl.to 2
              (temp d) 82 new pb.puts) rs))
              (pb.puts.sets.rounds ∙ pl.sets.rounds)
              (element_saved S y s h n w new (Some old) k q c
              (subst (λ k. IsWord k new) (sym q.kind) pb.fits) k2.rel)
              k2.kept pb.puts.sets.value hu hl
          rest false old new c ea fo en pl =
              let pb = bump_works (functions P most) (base P most) S.env o k pl.to 82 81
              (temp d) old new pl.sets.value fo.below en in
              let h = pb.puts.to in
              let v80 : h.vars 80 ≡ g.vars 80 = pb.puts.sets.others 80 (λ e. omega arith) (λ e. omega arith)
              ∙ pl.sets.others 80 (λ e. omega arith) (λ e. omega arith) in
              let k1 = keeps_set P most S y d f0 g pl.to s (temp d) 82 old (omega arith) (omega arith)
              (omega arith) ke pl.sets in
              let k2 = keeps_set P most S y d f0 pl.to h s 81 82 new (omega arith) (omega arith)
              (omega arith) k1 pb.puts.sets in
              let sv = element_saves P most S y k n w at new (Some old) s h q c k2.rel ea in
              let m = put_element q.it h.memory w new in
              let rs = save_reaches P most S y k A 81 at new h m (hA h v80)
              (var_read (functions P most) (base P most) S.env h 81 new pb.puts.sets.value) sv in
              value_reached d (Some k) f0 g (with_memory h m)
              (bump_memory o false A d k) 4 old top low
              (written s (InArray n w) (Some new)) k refl fo
              (both_reach P most S y (only (Load (temp d) (load_op k) A))
              (Then (bumped o k 81 (temp d)) (only (Save (save_op k) A (Var 81)))) g pl.to
              (with_memory h m) 1 3 (put_reaches P most S y
              (only (Load (temp d) (load_op k) A)) g 1 (temp d) 82 old pl)
              (both_reach P most S y (bumped o k 81 (temp d))
              (only (Save (save_op k) A (Var 81))) pl.to h (with_memory h m) 2 1
              (put_reaches P most S y (bumped o k 81 (temp d)) pl.to 2 81 82 new pb.puts) rs))
              (pb.puts.sets.rounds ∙ pl.sets.rounds)
              (element_saved S y s h n w new (Some old) k q c
              (subst (λ k. IsWord k new) (sym q.kind) pb.fits) k2.rel)
              k2.kept (pb.puts.sets.others (temp d) (λ e. omega arith) (λ e. omega arith)
              ∙ pl.sets.value) hu hl

  -- IN A SCALAR

  -- a scalar's variable holds one more or one less, and the value is in temporary d
  pub scalar_bump : (o : BumpOp) (k : Kind) (i d top low : ℕ) (f : State) (s : eval.State)
      (b : Bool) → d < 16 → slice_get S.func.scalars i ≡ Some (slot.Scalar k) → Related S s f
      → 3 + 8 * s.stock ≤ top → low ≤ s.stock + most * f.rounds
      → ((old new : ℕ) → bump_value o old new ≡ cond b new old)
      → FollowsHere P most S y d (Some k) f (bump_scalar o b i d k) f top low
      (bump_object o (Some k) s (InScalar i))
  unfolding apply
  scalar_bump o k i d top low f s b ld t r hu hl hv =
      needed most (Valued S d (Some k) f) (run P most S y (bump_scalar o b i d k) f) top low
      (held (cell s (InScalar i))) _ s (λ old. with_some (bump_of o (Some k) old) (bump_fault o (Some k) old) s
      (λ new. then (store s (InScalar i) new) (giving (bump_value o old new)))) (λ old eo.
      needed most (Valued S d (Some k) f) (run P most S y (bump_scalar o b i d k) f) top low
      (bump_of o (Some k) old) _ s (λ new. then (store s (InScalar i) new)
      (giving (bump_value o old new))) (λ new en.
      let c = held_is (cell s (InScalar i)) old eo in
      subst (λ r. FollowsHere P most S y d (Some k) f (bump_scalar o b i d k) f top low r)
      (sym (ap (λ v. then (store s (InScalar i) new) (giving v)) (hv old new)
      ∙ given_after s (InScalar i) (Some old) new (cond b new old) c))
      (go b old new en c (r.scalars i old (slot.Scalar k) t c))))
    where
      few : i < 64
      few = omega (arith, within_row S.func.scalars i (slot.Scalar k) t, y.few)

      go : (b : Bool) (old new : ℕ) → bump_of o (Some k) old ≡ Some new
          → cell s (InScalar i) ≡ Some (Some old) → (f.vars i ≡ Some old) × IsWord k old
          → FollowsHere P most S y d (Some k) f (bump_scalar o b i d k) f top low
          (Go (Value (cond b new old)) (written s (InScalar i) (Some new)))
      go true old new en c v =
          let lt = few in
          let pb = bump_works (functions P most) (base P most) S.env o k f 82 i i old new v.0 v.1.below en in
          let h = pb.puts.to in
          let rh = scalar_sets P most S y s f h i 82 new k (Some old) t c pb.fits (omega arith) pb.puts.sets r in
          let ke : KeptIs S d f (written s (InScalar i) (Some new)) h = record
          { rel = rh; kept = λ j l. pb.puts.sets.others (temp j) (λ e. omega arith) (λ e. omega arith) } in
          let pc = puts_let (functions P most) (base P most) S.env op.Mov (Var i) (Const 0) h 1 (temp d) 82 new 0 new
          (omega arith) (var_read (functions P most) (base P most) S.env h i new pb.puts.sets.value) refl refl in
          let k2 = keeps_set P most S y d f h pc.to (written s (InScalar i) (Some new)) (temp d) 82 new (omega arith)
          (omega arith) (omega arith) ke pc.sets in
          value_reached d (Some k) f f pc.to (bump_scalar o true i d k) 3 new top low
          (written s (InScalar i) (Some new)) k refl pb.fits
          (both_reach P most S y (bumped o k i i) (copied (temp d) i) f h pc.to 2 1
          (put_reaches P most S y (bumped o k i i) f 2 i 82 new pb.puts)
          (put_reaches P most S y (copied (temp d) i) h 1 (temp d) 82 new pc))
          (pc.sets.rounds ∙ pb.puts.sets.rounds) k2.rel k2.kept pc.sets.value hu hl
      go false old new en c v =
          let lt = few in
          let pc = puts_let (functions P most) (base P most) S.env op.Mov (Var i) (Const 0) f 1 (temp d) 82 old 0 old
          (omega arith) (var_read (functions P most) (base P most) S.env f i old v.0) refl refl in
          let g = pc.to in
          let k1 = keeps_set P most S y d f f g s (temp d) 82 old (omega arith) (omega arith) (omega arith)
          (keeps_all S d s f r) pc.sets in
          let hi : g.vars i ≡ Some old = pc.sets.others i (λ e. omega arith) (λ e. omega arith) ∙ v.0 in
          let pb = bump_works (functions P most) (base P most) S.env o k g 82 i i old new hi v.1.below en in
          let h = pb.puts.to in
          let rh = scalar_sets P most S y s g h i 82 new k (Some old) t c pb.fits (omega arith) pb.puts.sets k1.rel in
          value_reached d (Some k) f f h (bump_scalar o false i d k) 3 old top low
          (written s (InScalar i) (Some new)) k refl v.1
          (both_reach P most S y (copied (temp d) i) (bumped o k i i) f g h 1 2
          (put_reaches P most S y (copied (temp d) i) f 1 (temp d) 82 old pc)
          (put_reaches P most S y (bumped o k i i) g 2 i 82 new pb.puts))
          (pb.puts.sets.rounds ∙ pc.sets.rounds) rh
          (λ j l. pb.puts.sets.others (temp j) (λ e. omega arith) (λ e. omega arith) ∙ k1.kept j l)
          (pb.puts.sets.others (temp d) (λ e. omega arith) (λ e. omega arith) ∙ pc.sets.value) hu hl
