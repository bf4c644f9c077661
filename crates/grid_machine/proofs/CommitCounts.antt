-- Every part of a cycle counts as many committed blocks as the trace grows by.
use Rattle.std.proofs.Common.{◌≡◌, ℕ, ◌+◌, true, List, [], ◌∷◌, length, Option, Some, None}
use Rattle.std.proofs.Common.{refl, sym, ap, ◌∙◌, subst, arith}
use Rattle.trips_isa.specs.declared.block.Block.{Block}
use Rattle.trips_isa.specs.declared.run.Counts.{Counts}
use Rattle.trips_isa.specs.declared.run.Stepped.{Stepped}
use Rattle.trips_isa.specs.declared.run.Stepped.TheVariants as stepped
use Rattle.trips_isa.specs.Outcomes.{Outcome, Comes, Faults, unless}
use Rattle.trips_isa.specs.Machine.{State}
use Rattle.block_cases.specs.inside.Plain.{IsTrap}
use Rattle.block_cases.proofs.Traps.{applied_goes}
use Rattle.commit_flush_spec.specs.Causes.{Happened, Done, NotNow}
use Rattle.commit_flush_spec.specs.Frames.{Frame, Exit}
use Rattle.commit_flush_spec.specs.Ends.{outputs, cause_held}
use Rattle.commit_flush_spec.specs.InFlight.{commit, commit_to}
use Rattle.commit_flush_spec.specs.Window.{Window, Event, happens}
use Rattle.commit_flush_spec.specs.Window as event
use Rattle.commit_flush_spec.proofs.Applying.{apply_trace}
use Rattle.commit_flush_spec.proofs.Events.{state_stays, taken}
use Rattle.grid_cycle_spec.specs.Grid.{Grid}
use Rattle.grid_cycle_spec.specs.Acting.{is_done, may, flushed, gone, act}
use Rattle.grid_cycle_spec.specs.Ends.{one_committed, learning, committed_as, commit_in}
use Rattle.grid_cycle_spec.specs.Fetches.{fills}
use Rattle.grid_cycle_spec.specs.Cycles.{closed}
use Rattle.grid_cycle_spec.specs.inside.Cycles.{AfterCycles}
use Rattle.grid_cycle_spec.proofs.KeptByCycles.{cycles_keep}
use Rattle.grid_cycle_spec.proofs.KeptChanges.{IsSingle, IsFlushing, Keeps, every, by_window}
use Rattle.grid_machine.specs.Tallies.{CountsCommits}

done_of : (h : Happened) → is_done h ≡ true → h ≡ Done
done_of Done e = refl
done_of (NotNow c) e = absurd (cc)

module _ {W : Type 0} where
  -- the state and the committed blocks are those of another grid
  record SameCommits (g h : Grid W) : Type 0 where
    pub state : h.window.state ≡ g.window.state
    pub committed : h.counts.committed ≡ g.counts.committed

  unchanged : (g h : Grid W) → SameCommits g h → CountsCommits g h
  unchanged g h s =
      let l : length h.window.state.trace ≡ length g.window.state.trace =
      ap (λ (t : State). length t.trace) s.state in
      let c = s.committed in
      omega (arith, l, c)

  -- where two parts count the blocks that they commit, both together do
  pub chained : (g m h : Grid W) → CountsCommits g m → CountsCommits m h → CountsCommits g h
  chained g m h a b = omega (arith, a, b)

  flushed_same : (fs : List Frame) (g : Grid W) → SameCommits g (flushed fs g)
  flushed_same [] g = record { state = refl; committed = refl }
  flushed_same (f ∷ fs) g = record { state = refl; committed = refl }

  -- the flush at the end commits nothing
  pub closed_counts : (g : Grid W) → CountsCommits g (closed g)
  closed_counts g =
      let m : Grid W = record g { window = record g.window { frames = [] } } in
      let s = flushed_same g.window.frames m in
      unchanged g (closed g) (record { state = s.state; committed = s.committed })

  learning_same : (f : Frame) (o : Option Exit) (g : Grid W) → SameCommits g (learning f o g)
  learning_same f None g = record { state = refl; committed = refl }
  learning_same f (Some e) g = record { state = refl; committed = refl }

  -- a frame that has committed without a trap is counted
  counted_as : (s : Stepped) → (IsTrap s → ⊥) → (f : Frame) (fs : List Frame) (g : Grid W)
      → SameCommits (record g { counts = one_committed g.counts }) (committed_as s f fs g)
  counted_as s ne f fs g = go s ne
    where
      learned : SameCommits (record g { counts = one_committed g.counts })
          (learning f f.exit (record g { counts = one_committed g.counts }))
      learned = learning_same f f.exit (record g { counts = one_committed g.counts })

      go : (s : Stepped) → (IsTrap s → ⊥)
          → SameCommits (record g { counts = one_committed g.counts }) (committed_as s f fs g)
      go stepped.Went ne = record { state = learned.state; committed = learned.committed }
      go stepped.Ended ne = record { state = learned.state; committed = learned.committed }
      go stepped.StackFull ne = record { state = learned.state; committed = learned.committed }
      go (stepped.Trap c) ne = absurd (ne tt)

  outcome_counts : (o : Outcome) (f : Frame) (fs : List Frame) (g : Grid W)
      → CountsCommits g (committed_as (commit_to o f fs g.window).over f fs
      (record g { window = commit_to o f fs g.window }))
  outcome_counts (Comes o) f fs g =
      let m : Grid W = record g { window = commit_to (Comes o) f fs g.window } in
      let s = counted_as m.window.over (applied_goes f.code.writes.items o g.window.state) f fs m in
      let l : length (committed_as m.window.over f fs m).window.state.trace ≡ length m.window.state.trace =
      ap (λ (t : State). length t.trace) s.state in
      let c : (committed_as m.window.over f fs m).counts.committed ≡ g.counts.committed + 1 = s.committed in
      let t : length m.window.state.trace ≡ length g.window.state.trace + 1 =
      apply_trace f.code.writes.items o g.window.state in
      omega (arith, l, c, t)
  outcome_counts (Faults c) f fs g = refl

module _ {W : Type 0} (blocks : List Block) (budget : ℕ) where
  act_counts : (e : Event) → IsFlushing e → (g : Grid W) → CountsCommits g (act blocks budget e g)
  act_counts e l g =
      let v : Window = happens blocks budget e g.window in
      let m : Grid W = record g { window = v } in
      let s = flushed_same (gone g.window v) m in
      unchanged g (act blocks budget e g) (record {
        state = s.state ∙ state_stays blocks budget e g.window (λ z. subst IsFlushing z l);
        committed = s.committed;
      })

  commit_counts : (g : Grid W) → may blocks budget event.Commit g ≡ true
      → CountsCommits g (commit_in blocks budget g.window.frames g)
  commit_counts g may = go g.window.frames refl
    where
      go : (fs : List Frame) → g.window.frames ≡ fs → CountsCommits g (commit_in blocks budget fs g)
      go [] e = refl
      go (f ∷ fs) e = subst (λ (v : Window). CountsCommits g (committed_as v.over f fs (record g { window = v })))
          (sym (taken blocks budget event.Commit g.window (done_of _ may) ∙ ap (λ xs. commit xs g.window) e))
          (outcome_counts (unless (cause_held f) (outputs f)) f fs g)

  abbrev Tallied : Grid W → Grid W → Type 0
  Tallied g h = CountsCommits g h

  keeps : Keeps every blocks budget Tallied
  keeps = by_window every blocks budget Tallied (record {
    same = λ g. refl;
    chain = chained;
    quiet = λ g h e c. unchanged g h (record {
      state = ap (λ (w : Window). w.state) e;
      committed = ap (λ (k : Counts). k.committed) c;
    });
    single = λ e l g h is c. unchanged g h (record {
      state = ap (λ (w : Window). w.state) is
          ∙ state_stays blocks budget e g.window (λ z. subst IsSingle z l);
      committed = ap (λ (k : Counts). k.committed) c;
    });
    flushing = act_counts;
    filling = λ c f g may. unchanged g (fills blocks budget f g) (record {
      state = state_stays blocks budget (event.Fetch f.block) g.window (λ z. cc);
      committed = refl;
    });
    committing = λ c. commit_counts;
    counting = λ c g. refl;
  })

  -- n cycles count as many committed blocks as the trace grows by
  pub cycles_count : (next : W → ℕ) (follows : W → W → Type 0) (n : ℕ) (g h : Grid W)
      → AfterCycles next follows blocks budget n g h → CountsCommits g h
  cycles_count = cycles_keep blocks budget Tallied keeps
