-- In a cycle the window of each program changes by events of its own image, so that its committed state takes steps
-- of its own machine.
use Rattle.std.proofs.Common.{◌≡◌, ℕ, List, [], ◌∷◌, ◌++◌, None, refl, sym, ap, ◌∙◌}
use Rattle.std.proofs.Common.{subst}
use Rattle.std.proofs.lemmas.Bool.{cond_both}
use Rattle.trips_isa.specs.declared.block.Block.{Block}
use Rattle.trips_isa.specs.declared.run.Stepped.TheVariants as stepped
use Rattle.trips_isa.specs.Machine.{State}
use Rattle.commit_flush_spec.specs.Frames.{Frame}
use Rattle.commit_flush_spec.specs.Window.{Window, Event, happens, plays}
use Rattle.commit_flush_spec.specs.Window as window
use Rattle.commit_flush_spec.specs.inside.Invariant.{AllGood}
use Rattle.commit_flush_spec.specs.Laws.{TakesSteps}
use Rattle.commit_flush_spec.specs.inside.Laws.{WindowOk}
use Rattle.grid_cycle_spec.specs.inside.Laws.{ByEvents}
use Rattle.grid_cycle_spec.specs.Grid.{Grid}
use Rattle.grid_cycle_spec.specs.Acting.{gone}
use Rattle.grid_cycle_spec.specs.Ends.{commit_in, ends}
use Rattle.grid_cycle_spec.specs.Fetches.{fetch_ends, begins}
use Rattle.grid_cycle_spec.specs.Cycles.{closed}
use Rattle.grid_cycle_spec.proofs.Events.{flushed_window, committed_window}
use Rattle.grid_cycle_spec.proofs.KeptChanges.{Keeps, every, by_window}
use Rattle.grid_cycle_spec.proofs.KeptByTurns.{ends_keep, fetched_keeps, begins_keeps}
use Rattle.grid_cycle_spec.proofs.Agreeing.{takes_steps}
use Rattle.smt_spec.specs.Programs.{Own, Four, is_idle}
use Rattle.smt_spec.specs.Turns.{first_does, all_do, all_four}
use Rattle.smt_spec.specs.Parts.{Images, ends_of, fetches_go_on, fetch_begins, fetches_of, may_begin}
use Rattle.smt_spec.specs.Cycles.{goes_on, going, acting, acts_of, Moves, retires, Eager4}
use Rattle.smt_spec.proofs.OwnWalks.{KeptByOwn, by_changes, first_goes, all_goes, either_goes, stations_go, moves_go}

-- events ------------------------------------------------------------------------------------------

plays_on : (blocks : List Block) (budget : ℕ) (es fs : List Event) (w : Window)
    → plays blocks budget (es ++ fs) w ≡ plays blocks budget fs (plays blocks budget es w)
plays_on blocks budget [] fs w = refl
plays_on blocks budget (e ∷ es) fs w = plays_on blocks budget es fs (happens blocks budget e w)

module _ (blocks : List Block) (budget : ℕ) where
  -- a window that stays changes by no event
  pub no_event : (v w : Window) → w ≡ v → ByEvents blocks budget v w
  no_event v w e = record { events = []; played = e }

  one_event : (e : Event) (v w : Window) → w ≡ happens blocks budget e v → ByEvents blocks budget v w
  one_event e v w is = record { events = e ∷ []; played = is }

  -- events one after another
  pub and_then : (u v w : Window) → ByEvents blocks budget u v → ByEvents blocks budget v w → ByEvents blocks budget
      u w
  and_then u v w a b = record {
    events = a.events ++ b.events;
    played = b.played ∙ ap (plays blocks budget b.events) a.played ∙ sym (plays_on blocks budget a.events b.events u);
  }

module _ {W : Type 0} (blocks : List Block) (budget : ℕ) where
  abbrev Played : Grid W → Grid W → Type 0
  Played g h = ByEvents blocks budget g.window h.window

  commit_events : (fs : List Frame) (g : Grid W) → Played g (commit_in blocks budget fs g)
  commit_events [] g = no_event blocks budget g.window g.window refl
  commit_events (f ∷ fs) g = one_event blocks budget window.Commit g.window _
      (committed_window (happens blocks budget window.Commit g.window).over f fs
      (record g { window = happens blocks budget window.Commit g.window }))

  keeps : Keeps every blocks budget Played
  keeps = by_window every blocks budget Played (record {
    same = λ g. no_event blocks budget g.window g.window refl;
    chain = λ g m h. and_then blocks budget g.window m.window h.window;
    quiet = λ g h e c. no_event blocks budget g.window h.window e;
    single = λ e l g h is c. one_event blocks budget e g.window h.window is;
    flushing = λ e l g. one_event blocks budget e g.window _
        (flushed_window (gone g.window (happens blocks budget e g.window))
        (record g { window = happens blocks budget e g.window }));
    filling = λ c f g may. one_event blocks budget (window.Fetch f.block) g.window _ refl;
    committing = λ c g may. commit_events g.window.frames g;
    counting = λ c g. no_event blocks budget g.window g.window refl;
  })

-- programs ----------------------------------------------------------------------------------------

-- what has become over keeps its state and how it has ended
pub record Same (v w : Window) : Type 0 where
  pub state : w.state ≡ v.state
  pub over : w.over ≡ v.over

-- steps of a window are those of one with the same state and ending
pub same_steps : (blocks : List Block) (s : State) (v w : Window) → Same v w → TakesSteps blocks s v
    → TakesSteps blocks s w
same_steps blocks s v w a t = subst (λ o. TakesSteps blocks s (record w { over = o })) (sym a.over)
    (subst (λ x. TakesSteps blocks s (record w { state = x; over = v.over })) (sym a.state)
    (record { steps = t.steps; grown = t.grown; reached = t.reached }))

abbrev Alike : Own → Own → Type 0
Alike o n = Same o.window n.window

-- what a program has changes by events of an image
abbrev Onward : List Block → ℕ → Own → Own → Type 0
Onward blocks budget o n = ByEvents blocks budget o.window n.window

same_own : (blocks : List Block) (budget : ℕ) (o : Own) → Onward blocks budget o o
same_own blocks budget o = no_event blocks budget o.window o.window refl

chain_own : (blocks : List Block) (budget : ℕ) (o m n : Own) → Onward blocks budget o m → Onward blocks budget m n
    → Onward blocks budget o n
chain_own blocks budget o m n = and_then blocks budget o.window m.window n.window

module _ {W : Type 0} (images : Images) (budget q : ℕ) where
  -- the window of program q changes by events of its own
  abbrev pub Moved : Four W → Four W → Type 0
  Moved g h = ByEvents (images q) budget (g.own q).window (h.own q).window

  kept : KeptByOwn W (images q) budget (Onward (images q) budget)
  kept = by_changes (images q) budget (Played (images q) budget) (keeps (images q) budget) (λ n. tt) tt tt tt
      (Onward (images q) budget)
      (λ g h r. r)

  module _ (ps : List ℕ) where
    -- part (1)
    pub ends_own : (g : Four W) → Moved g (ends_of images budget ps g)
    ends_own g = all_goes q (Onward (images q) budget) (same_own (images q) budget) (chain_own (images q) budget) (λ
        p. ends (images p) budget)
        (λ h. ends_keep (images q) budget (Played (images q) budget) (keeps (images q) budget) tt tt h) ps g

    fetches_own : (g : Four W) → Moved g (fetches_of images budget ps g)
    fetches_own g =
        let m : Four W = fetches_go_on images budget g in
        chain_own (images q) budget (g.own q) (m.own q) ((fetch_begins images ps m).own q)
        (all_goes q (Onward (images q) budget) (same_own (images q) budget) (chain_own (images q) budget) (λ p h.
        fetch_ends (images p) budget h.fetching h)
        (λ h. fetched_keeps (images q) budget (Played (images q) budget) (keeps (images q) budget) tt h.fetching h)
        all_four g)
        (either_goes q (Onward (images q) budget) (same_own (images q) budget) (chain_own (images q) budget)
        (is_idle m)
        (first_does (may_begin images) (λ p. begins (images p)) ps m) m m
        (first_goes q (Onward (images q) budget) (same_own (images q) budget) (chain_own (images q) budget)
        (may_begin images) (λ p. begins (images p))
        (λ h e. begins_keeps (images q) budget (Played (images q) budget) (keeps (images q) budget) h.fetching h) ps
        m)
        (same_own (images q) budget (m.own q)))

    -- parts (2) to (5)
    pub acts_own : (g : Four W) → Moved g (acts_of images budget ps g)
    acts_own g =
        let a : Four W = fetches_of images budget ps g in
        chain_own (images q) budget (g.own q) (a.own q) ((acts_of images budget ps g).own q) (fetches_own g)
        (stations_go q (Onward (images q) budget) (same_own (images q) budget) (chain_own (images q) budget) images
        budget kept ps a)

    -- part (6)
    pub moves_own : (next : W → ℕ) (follows : W → W → Type 0) (g h : Four W)
        → Moves next follows images budget ps g h → Moved g h
    moves_own = moves_go q (Onward (images q) budget) (same_own (images q) budget) (chain_own (images q) budget)
        images budget kept ps

  closed_same : (h : Grid W) → (closed h).window ≡ record h.window { frames = [] }
  closed_same h = flushed_window h.window.frames (record h { window = record h.window { frames = [] } })

  retire_same : (h : Grid W) → Same h.window (retires budget h).window
  retire_same h = cond_both (goes_on budget h.window) h (record (closed h) { fetching = None })
      (λ (k : Grid W). Same h.window k.window) (λ e. record { state = refl; over = refl })
      (λ e. record {
        state = ap (λ (w : Window). w.state) (closed_same h);
        over = ap (λ (w : Window). w.over) (closed_same h);
      })

  -- what has become over keeps its state and how it has ended
  pub retired_same : (ps : List ℕ) (g : Four W)
      → Same (g.own q).window ((all_do (λ p. retires budget) ps g).own q).window
  retired_same ps g = all_goes q Alike (λ o. record { state = refl; over = refl })
      (λ o m n a b. record { state = b.state ∙ a.state; over = b.over ∙ a.over }) (λ p. retires budget) retire_same
      ps g

  module _ (next : W → ℕ) (follows : W → W → Type 0) (g h : Four W) (cycle : Eager4 next follows images budget g h)
    where
      -- behind part (1) the window of each program changes by events of its own
      pub moved_own : Moved (ends_of images budget (going budget g) g) cycle.last
      moved_own =
          let m : Four W = ends_of images budget (going budget g) g in
          let qs : List ℕ = acting (going budget g) m in
          chain_own (images q) budget (m.own q) ((acts_of images budget qs m).own q) ((cycle.last).own q) (acts_own qs
          m)
          (moves_own qs next follows (acts_of images budget qs m) cycle.last cycle.moves)

      -- before what has become over is flushed
      pub last_own : Moved g cycle.last
      last_own =
          let m : Four W = ends_of images budget (going budget g) g in
          chain_own (images q) budget (g.own q) (m.own q) ((cycle.last).own q) (ends_own (going budget g) g) moved_own

      -- what has become over is flushed, and keeps its state and how it has ended
      pub same_last : Same ((cycle.last).own q).window (h.own q).window
      same_last = subst (λ (k : Four W). Same ((cycle.last).own q).window (k.own q).window) (sym cycle.ends)
          (retired_same (going budget g) cycle.last)

      -- in a cycle the committed state of each program takes as many steps of its own machine as its trace grows by
      pub alone_steps : AllGood (images q) → WindowOk (images q) budget (g.own q).window
          → (g.own q).window.over ≡ stepped.Went → TakesSteps (images q) (g.own q).window.state (h.own q).window
      alone_steps good ok went = same_steps (images q) (g.own q).window.state ((cycle.last).own q).window (h.own
          q).window same_last
          (takes_steps (images q) good budget (g.own q).window ((cycle.last).own q).window ok went last_own)
