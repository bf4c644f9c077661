-- No frame is filled more often than cycles are made: a cycle fills one frame at most.
use Rattle.std.proofs.Common.{◌≡◌, ℕ, zero, suc, ◌+◌, ◌≤◌, List, [], ◌∷◌, Option, Some, None}
use Rattle.std.proofs.Common.{slice_get, slice_index, set, refl, ap, ◌∙◌, subst, arith}
use Rattle.trips_isa.specs.declared.block.Block.{Block}
use Rattle.trips_isa.specs.declared.run.Counts.{Counts}
use Rattle.trips_isa.specs.Outcomes.{Outcome, Comes, Faults, unless}
use Rattle.commit_flush_spec.specs.Causes.{Happened, Done, NotNow}
use Rattle.commit_flush_spec.specs.Frames.{Frame}
use Rattle.commit_flush_spec.specs.Ends.{outputs, cause_held}
use Rattle.commit_flush_spec.specs.InFlight.{commit_to}
use Rattle.commit_flush_spec.specs.Window.{Window, Event, can, done, if_done, happens, fetched, lowest_empty, commit}
use Rattle.commit_flush_spec.specs.Window as window
use Rattle.grid_cycle_spec.specs.Grid.{Grid}
use Rattle.grid_cycle_spec.specs.Acting.{gone, act}
use Rattle.grid_cycle_spec.specs.Ends.{commit_in}
use Rattle.grid_cycle_spec.specs.Cycles.{counted}
use Rattle.grid_cycle_spec.specs.inside.Cycles.{AfterCycles}
use Rattle.grid_cycle_spec.proofs.KeptByCycles.{cycles_keep}
use Rattle.grid_cycle_spec.proofs.KeptChanges.{IsFlushing, IsSingle, Keeps, every, by_window}
use Rattle.grid_cycle_spec.proofs.Events.{flushed_window, committed_window}
use Rattle.grid_cycle_spec.proofs.FetchedOnce.{flushed_uncounted, commit_uncounted, cycles_once}
use Rattle.grid_bound.specs.inside.Rule.{GenerationsCounted}

-- an event that fills no frame leaves the generations -----------------------------------------------

outcome_generations : (x : Outcome) (f : Frame) (fs : List Frame) (w : Window)
    → (commit_to x f fs w).generations ≡ w.generations
outcome_generations (Comes o) f fs w = refl
outcome_generations (Faults c) f fs w = refl

commit_generations : (fs : List Frame) (w : Window) → (commit fs w).generations ≡ w.generations
commit_generations [] w = refl
commit_generations (f ∷ fs) w = outcome_generations (unless (cause_held f) (outputs f)) f fs w

done_generations : (blocks : List Block) (e : Event) → ((k : ℕ) → e ≡ window.Fetch k → ⊥) → (w : Window)
    → (done blocks e w).generations ≡ w.generations
done_generations blocks (window.Fetch k) n w = absurd (n k refl)
done_generations blocks (window.Read m r) n w = refl
done_generations blocks (window.Fire m s) n w = refl
done_generations blocks (window.Deliver t) n w = refl
done_generations blocks (window.Load m k) n w = refl
done_generations blocks (window.Store m k) n w = refl
done_generations blocks (window.Exit m) n w = refl
done_generations blocks (window.Seal m) n w = refl
done_generations blocks (window.Flush m) n w = refl
done_generations blocks window.Commit n w = commit_generations w.frames w

happens_generations : (blocks : List Block) (budget : ℕ) (e : Event) → ((k : ℕ) → e ≡ window.Fetch k → ⊥)
    → (w : Window) → (happens blocks budget e w).generations ≡ w.generations
happens_generations blocks budget e n w = go (can blocks budget e w)
  where
    go : (h : Happened) → (if_done h (done blocks e w) w).generations ≡ w.generations
    go Done = done_generations blocks e n w
    go (NotNow c) = refl

-- a frame that is filled raises one generation by one ------------------------------------------------

raised : (xs : List ℕ) (n m : ℕ) → slice_index (set xs n (slice_index xs n + 1)) m ≤ slice_index xs m + 1
raised [] n m = omega arith
raised (x ∷ xs) zero zero = omega arith
raised (x ∷ xs) zero (suc m) = omega arith
raised (x ∷ xs) (suc n) zero = omega arith
raised (x ∷ xs) (suc n) (suc m) = raised xs n m

fetched_more : (k : ℕ) (n : Option ℕ) (b : Option Block) (w : Window) (m : ℕ)
    → slice_index (fetched k n b w).generations m ≤ slice_index w.generations m + 1
fetched_more k None b w m = omega arith
fetched_more k (Some n) None w m = omega arith
fetched_more k (Some n) (Some b) w m = raised w.generations n m

fill_more : (blocks : List Block) (budget k m : ℕ) (w : Window)
    → slice_index (happens blocks budget (window.Fetch k) w).generations m ≤ slice_index w.generations m + 1
fill_more blocks budget k m w = go (can blocks budget (window.Fetch k) w)
  where
    go : (h : Happened)
        → slice_index (if_done h (done blocks (window.Fetch k) w) w).generations m ≤ slice_index w.generations m + 1
    go Done = fetched_more k (lowest_empty 8 0 w.frames) (slice_get blocks k) w m
    go (NotNow c) = omega arith

-- a generation is raised no more often than a frame is fetched ---------------------------------------

module _ {W : Type 0} (blocks : List Block) (budget : ℕ) where
  abbrev Raised : Grid W → Grid W → Type 0
  Raised g h = (n : ℕ)
      → slice_index h.window.generations n + g.counts.fetched ≤ slice_index g.window.generations n + h.counts.fetched

  none_raised : (g h : Grid W) → h.window.generations ≡ g.window.generations → h.counts.fetched ≡ g.counts.fetched
      → Raised g h
  none_raised g h e c n =
      let a : slice_index h.window.generations n ≡ slice_index g.window.generations n = ap (λ l. slice_index l n) e in
      omega (arith, a, c)

  by_event : (e : Event) → ((k : ℕ) → e ≡ window.Fetch k → ⊥) → (g h : Grid W)
      → h.window ≡ happens blocks budget e g.window → h.counts.fetched ≡ g.counts.fetched → Raised g h
  by_event e n g h is = none_raised g h
      (ap (λ (w : Window). w.generations) is ∙ happens_generations blocks budget e n g.window)

  commit_raised : (fs : List Frame) (g : Grid W) → Raised g (commit_in blocks budget fs g)
  commit_raised [] g = none_raised g g refl refl
  commit_raised (f ∷ fs) g =
      let v : Window = happens blocks budget window.Commit g.window in
      by_event window.Commit (λ k z. cc) g (commit_in blocks budget (f ∷ fs) g)
      (committed_window v.over f fs (record g { window = v }))
      (commit_uncounted blocks budget (f ∷ fs) g).0

  keeps : Keeps every blocks budget Raised
  keeps = by_window every blocks budget Raised (record {
    same = λ g. none_raised g g refl refl;
    chain = λ g m h a b n. let x = a n in let y = b n in omega (arith, x, y);
    quiet = λ g h e c. none_raised g h (ap (λ (w : Window). w.generations) e) (ap (λ (k : Counts). k.fetched) c);
    single = λ e l g h is c. by_event e (λ k z. subst IsSingle z l) g h is (ap (λ (k : Counts). k.fetched) c);
    flushing = λ e l g.
        let v : Window = happens blocks budget e g.window in
        let m : Grid W = record g { window = v } in
        let fs : List Frame = gone g.window v in
        by_event e (λ k z. subst IsFlushing z l) g (act blocks budget e g) (flushed_window fs m)
        (flushed_uncounted fs m).0;
    filling = λ c f g may n. let x = fill_more blocks budget f.block n g.window in omega (arith, x);
    committing = λ c g may. commit_raised g.window.frames g;
    counting = λ c g. none_raised g (counted g) refl refl;
  })

  -- after some cycles no frame has been filled more often than cycles have been made
  pub cycles_count : (next : W → ℕ) (follows : W → W → Type 0) (n : ℕ) (g h : Grid W) → GenerationsCounted g
      → AfterCycles next follows blocks budget n g h → GenerationsCounted h
  cycles_count next follows n g h made cycles i =
      let a = cycles_keep blocks budget Raised keeps next follows n g h cycles i in
      let b = cycles_once blocks budget next follows n g h cycles in
      let m = made i in
      omega (arith, a, b, m)
