-- Where the oldest frame lacks an output, some event of it would be done.
use Rattle.std.proofs.Common.{◌≡◌, ℕ, suc, Bool, true, false, List, []}
use Rattle.std.proofs.Common.{◌∷◌, length, Option, Some, None, refl, sym, ap, ◌∙◌}
use Rattle.std.proofs.Common.{arith, IfSome}
use Rattle.trips_isa.specs.declared.block.Block.{Block}
use Rattle.trips_isa.specs.declared.run.Stepped.TheVariants.{Went}
use Rattle.commit_flush_spec.specs.Frames.{Frame}
use Rattle.commit_flush_spec.specs.inside.Invariant.{AllGood}
use Rattle.commit_flush_spec.specs.inside.Laws.{WindowOk}
use Rattle.commit_flush_spec.specs.Window.{Window}
use Rattle.frame_state.specs.declared.parts.Lack.{Lack}
use Rattle.commit_flush_spec.proofs.Next.{never_stuck}
use Rattle.grid_machine.specs.Endings.{is_going}
use Rattle.grid_machine.proofs.Starts.{went_of}
use Rattle.grid_cycle.specs.Lacks.{OldestSteps, oldest_lacks}
use Rattle.grid_cycle.proofs.LackFacts.{Lacking, lacking}

module _ (blocks : List Block) (good : AllGood blocks) (budget : ℕ) (w : Window) (ok : WindowOk blocks budget w)
    (rests : is_going budget w ≡ false → w.frames ≡ []) where
  -- a run with a frame in flight has not ended
  went : (f : Frame) (fs : List Frame) → w.frames ≡ f ∷ fs → w.over ≡ Went
  went f fs e = go (is_going budget w) refl
    where
      go : (b : Bool) → is_going budget w ≡ b → w.over ≡ Went
      go true on = went_of budget w on
      go false off = absurd (let bad : suc (length fs) ≡ 0 = ap length (sym e ∙ rests off) in omega (arith, bad))

  steps_in : (fs : List Frame) (l : Lack) → w.frames ≡ fs → oldest_lacks fs ≡ Some l → OldestSteps blocks budget w fs
  steps_in [] l e h = absurd (let bad : None ≡ Some l = h in cc)
  steps_in (f ∷ fs) l e h =
      let k : Lacking f = lacking f l h in
      let s = never_stuck blocks budget w f fs good ok (went f fs e) e k.runs k.lacks in
      record { event = s.0; is_step = s.1; done = s.3 }

  -- where the oldest frame lacks an output, some event of it would be done
  pub steps : (l : Lack) → oldest_lacks w.frames ≡ Some l → OldestSteps blocks budget w w.frames
  steps l h = steps_in w.frames l refl h

-- a fact of what is there
pub if_some : {A : Type 0} (o : Option A) (fact : Type 0) → ((x : A) → o ≡ Some x → fact) → IfSome o (λ x. fact)
if_some None fact tells = tt
if_some (Some x) fact tells = tells x refl
