-- A cycle commits at most one block.
use Rattle.std.proofs.Common.{◌≡◌, ℕ, suc, ◌+◌, ◌≤◌, List, [], ◌∷◌, length}
use Rattle.std.proofs.Common.{ap, arith}
use Rattle.std.proofs.lemmas.Bool.{cond_both}
use Rattle.trips_isa.specs.declared.block.Block.{Block}
use Rattle.trips_isa.specs.Outcomes.{Outcome, Comes, Faults, unless}
use Rattle.trips_isa.specs.Machine.{State}
use Rattle.commit_flush_spec.specs.Causes.{Happened, Done, NotNow}
use Rattle.commit_flush_spec.specs.Frames.{Frame}
use Rattle.commit_flush_spec.specs.Ends.{outputs, cause_held}
use Rattle.commit_flush_spec.specs.InFlight.{commit, commit_to}
use Rattle.commit_flush_spec.specs.Window.{Window, can, done, happens, if_done}
use Rattle.commit_flush_spec.specs.Window as event
use Rattle.commit_flush_spec.specs.inside.Invariant.{AllGood}
use Rattle.commit_flush_spec.proofs.Applying.{apply_trace}
use Rattle.grid_cycle_spec.specs.Grid.{Grid, numbers_of}
use Rattle.grid_cycle_spec.specs.Acting.{may}
use Rattle.grid_cycle_spec.specs.Ends.{seal_each, commit_in, commit_oldest, ends}
use Rattle.grid_cycle_spec.specs.Cycles.{Eager}
use Rattle.grid_bound.proofs.Steady.{On, steady}
use Rattle.grid_cycle_spec.proofs.Events.{committed_window}
use Rattle.grid_cycle_spec.proofs.KeptByCycles.{follows_keep}
use Rattle.grid_cycle_spec.proofs.KeptByTurns.{seals_keep}

-- a commit -----------------------------------------------------------------------------------------

outcome_grows : (o : Outcome) (f : Frame) (fs : List Frame) (w : Window)
    → length (commit_to o f fs w).state.trace ≤ suc (length w.state.trace)
outcome_grows (Comes o) f fs w =
    let t : length (commit_to (Comes o) f fs w).state.trace ≡ length w.state.trace + 1 =
    apply_trace f.code.writes.items o w.state in
    omega (arith, t)
outcome_grows (Faults c) f fs w = omega arith

commit_grows : (fs : List Frame) (w : Window) → length (commit fs w).state.trace ≤ suc (length w.state.trace)
commit_grows [] w = omega arith
commit_grows (f ∷ fs) w = outcome_grows (unless (cause_held f) (outputs f)) f fs w

happens_grows : (blocks : List Block) (budget : ℕ) (w : Window)
    → length (happens blocks budget event.Commit w).state.trace ≤ suc (length w.state.trace)
happens_grows blocks budget w = by (can blocks budget event.Commit w)
  where
    by : (h : Happened)
        → length (if_done h (done blocks event.Commit w) w).state.trace ≤ suc (length w.state.trace)
    by Done = commit_grows w.frames w
    by (NotNow c) = omega arith

-- part (1) -----------------------------------------------------------------------------------------

module _ {W : Type 0} (blocks : List Block) (good : AllGood blocks) (budget : ℕ) where
  commit_in_grows : (fs : List Frame) (g : Grid W)
      → length (commit_in blocks budget fs g).window.state.trace ≤ suc (length g.window.state.trace)
  commit_in_grows [] g = omega arith
  commit_in_grows (f ∷ fs) g =
      let v : Window = happens blocks budget event.Commit g.window in
      let e : length (commit_in blocks budget (f ∷ fs) g).window.state.trace ≡ length v.state.trace =
      ap (λ (w : Window). length w.state.trace) (committed_window v.over f fs (record g { window = v })) in
      let k : length v.state.trace ≤ suc (length g.window.state.trace) = happens_grows blocks budget g.window in
      omega (arith, e, k)

  oldest_grows : (g : Grid W)
      → length (commit_oldest blocks budget g).window.state.trace ≤ suc (length g.window.state.trace)
  oldest_grows g = cond_both (may blocks budget event.Commit g) (commit_in blocks budget g.window.frames g) g
      (λ (h : Grid W). length h.window.state.trace ≤ suc (length g.window.state.trace))
      (λ z. commit_in_grows g.window.frames g) (λ z. omega arith)

  -- but for that commit the committed state stays
  pub cycle_grows : (next : W → ℕ) (follows : W → W → Type 0) (m h : Grid W) → Eager next follows blocks budget m h
      → length h.window.state.trace ≤ suc (length m.window.state.trace)
  cycle_grows next follows m h c =
      let ns : List ℕ = numbers_of m.window.frames in
      let q : Grid W = seal_each blocks budget ns m in
      let sealed = seals_keep blocks budget (On blocks budget) (steady blocks budget good) tt ns m in
      let rest = follows_keep blocks budget (On blocks budget) (steady blocks budget good) (λ n. tt) tt tt tt tt tt
      next follows (ends blocks budget m).window.over (ends blocks budget m) h c in
      let e : length q.window.state.trace ≡ length m.window.state.trace =
      ap (λ (s : State). length s.trace) sealed.state in
      let k : length (ends blocks budget m).window.state.trace ≤ suc (length q.window.state.trace) = oldest_grows q in
      let f : length h.window.state.trace ≡ length (ends blocks budget m).window.state.trace =
      ap (λ (s : State). length s.trace) rest.state in
      omega (arith, e, k, f)
