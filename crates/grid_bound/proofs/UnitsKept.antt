-- How busy units are changes in part (5) alone.
use Rattle.std.proofs.Common.{◌≡◌, ℕ, List, [], ◌∷◌, Option, Some, None, refl, ◌∙◌}
use Rattle.trips_isa.specs.declared.block.Block.{Block}
use Rattle.trips_isa.specs.declared.run.Stepped.{Stepped}
use Rattle.trips_isa.specs.declared.run.Stepped.TheVariants as stepped
use Rattle.commit_flush_spec.specs.Frames.{Frame, Exit}
use Rattle.commit_flush_spec.specs.Window.{Window, Event, happens}
use Rattle.commit_flush_spec.specs.Window as window
use Rattle.grid_cycle_spec.specs.Grid.{Grid}
use Rattle.grid_cycle_spec.specs.Acting.{act, flushed, gone}
use Rattle.grid_cycle_spec.specs.Ends.{learning, committed_as, commit_in, one_committed, ends}
use Rattle.grid_cycle_spec.specs.Fetches.{fetches}
use Rattle.grid_cycle_spec.specs.Banks.{reads_answered}
use Rattle.grid_cycle_spec.specs.DataTiles.{answers}
use Rattle.grid_cycle_spec.specs.inside.Arrivals.{arrivals}
use Rattle.grid_cycle_spec.proofs.KeptByCycles.{banks_keep, answers_keep}
use Rattle.grid_cycle_spec.proofs.KeptChanges.{Kinds, every, Keeps}
use Rattle.grid_cycle_spec.proofs.KeptByTurns.{ends_keep, fetches_keep}
use Rattle.grid_cycle_spec.proofs.KeptByArrivals.{arrivals_keep}

-- all changes but those of units
abbrev still : Kinds
still = record every { turning = ⊥ }

module _ {W : Type 0} (blocks : List Block) (budget : ℕ) where
  abbrev Kept : Grid W → Grid W → Type 0
  Kept g h = h.units ≡ g.units

  flushed_kept : (fs : List Frame) (g : Grid W) → Kept g (flushed fs g)
  flushed_kept [] g = refl
  flushed_kept (x ∷ fs) g = refl

  act_kept : (e : Event) (g : Grid W) → Kept g (act blocks budget e g)
  act_kept e g =
      let v : Window = happens blocks budget e g.window in
      flushed_kept (gone g.window v) (record g { window = v })

  learning_kept : (f : Frame) (e : Option Exit) (g : Grid W) → Kept g (learning f e g)
  learning_kept f None g = refl
  learning_kept f (Some e) g = refl

  committed_kept : (s : Stepped) (f : Frame) (fs : List Frame) (g : Grid W) → Kept g (committed_as s f fs g)
  committed_kept stepped.Went f fs g = learning_kept f f.exit (record g { counts = one_committed g.counts })
  committed_kept stepped.Ended f fs g = learning_kept f f.exit (record g { counts = one_committed g.counts })
  committed_kept stepped.StackFull f fs g = learning_kept f f.exit (record g { counts = one_committed g.counts })
  committed_kept (stepped.Trap c) f fs g = refl

  commit_kept : (fs : List Frame) (g : Grid W) → Kept g (commit_in blocks budget fs g)
  commit_kept [] g = refl
  commit_kept (f ∷ fs) g =
      let v : Window = happens blocks budget window.Commit g.window in
      committed_kept v.over f fs (record g { window = v })

  -- each change but those of units leaves the units as they are
  kept : Keeps still blocks budget Kept
  kept = record {
    same = λ g. refl;
    chain = λ g m h a b. b ∙ a;
    sealing = λ e n g. refl;
    committing = λ e g may. commit_kept g.window.frames g;
    filling = λ e f g may. refl;
    fetching = λ o p g. refl;
    reading = λ n e r g. refl;
    entering = λ e n o place from to g. refl;
    loading = λ n e k g. refl;
    unasking = λ n e k g. refl;
    storing = λ n e k. act_kept (window.Store n k);
    waiting = λ q g. refl;
    turning = λ e. absurd e;
    resting = λ n e slot g. refl;
    issuing = λ e. absurd e;
    ticking = λ e p w g. refl;
    taking = λ n e place c g i. refl;
    asking = λ n e k g. refl;
    delivering = λ n e place l g. refl;
    exiting = λ n e. act_kept (window.Exit n);
    counting = λ e g. refl;
  }

  -- part (1), the ends, leaves the units as they are
  pub ends_kept : (g : Grid W) → Kept g (ends blocks budget g)
  ends_kept = ends_keep blocks budget Kept kept tt tt

  -- part (2), the fetch unit, leaves the units as they are
  pub fetches_kept : (g : Grid W) → Kept g (fetches blocks budget g)
  fetches_kept = fetches_keep blocks budget Kept kept tt

  -- part (3), the banks, leaves the units as they are
  pub banks_kept : (g : Grid W) → Kept g (reads_answered blocks budget g)
  banks_kept = banks_keep blocks budget Kept kept (λ n. tt) tt

  -- part (4), the data tiles, leaves the units as they are
  pub answers_kept : (g : Grid W) → Kept g (answers blocks budget g)
  answers_kept = answers_keep blocks budget Kept kept (λ n. tt) tt

  -- arrivals leave the units as they are
  pub arrivals_kept : (ns : List ℕ) (g : Grid W) → Kept g (arrivals blocks budget ns g)
  arrivals_kept = arrivals_keep blocks budget Kept kept (λ n. tt)
