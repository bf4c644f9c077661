-- Whatever the grid does, its window changes by events.
use Rattle.std.proofs.Common.{◌≡◌, ℕ, List, [], ◌∷◌, ◌++◌, Option, Some, None, slice_get, refl, sym, ap, ◌∙◌}
use Rattle.trips_isa.specs.declared.block.Block.{Block}
use Rattle.trips_isa.specs.declared.run.Stepped.{Stepped}
use Rattle.trips_isa.specs.declared.run.Stepped.TheVariants as stepped
use Rattle.commit_flush_spec.specs.Frames.{Frame, Exit}
use Rattle.commit_flush_spec.specs.Causes.{Happened, Done, NotNow}
use Rattle.commit_flush_spec.specs.Window.{Window, Event, can, done, if_done, happens, plays, fetched, lowest_empty}
use Rattle.commit_flush_spec.specs.Window as window
use Rattle.grid_cycle_spec.specs.inside.Laws.{ByEvents}
use Rattle.grid_cycle_spec.specs.Grid.{Grid}
use Rattle.grid_cycle_spec.specs.Acting.{flushed, gone}
use Rattle.grid_cycle_spec.specs.Ends.{learning, committed_as, commit_in}
use Rattle.grid_cycle_spec.specs.Cycles.{Eager}
use Rattle.grid_cycle_spec.specs.inside.Cycles.{AfterCycles}
use Rattle.grid_cycle_spec.proofs.KeptByCycles.{eager_keeps, cycles_keep}
use Rattle.grid_cycle_spec.proofs.KeptChanges.{Keeps, every, by_window}

plays_on : (blocks : List Block) (budget : ℕ) (es fs : List Event) (w : Window)
    → plays blocks budget (es ++ fs) w ≡ plays blocks budget fs (plays blocks budget es w)
plays_on blocks budget [] fs w = refl
plays_on blocks budget (e ∷ es) fs w = plays_on blocks budget es fs (happens blocks budget e w)

module _ (blocks : List Block) (budget : ℕ) where
  no_event : (v w : Window) → w ≡ v → ByEvents blocks budget v w
  no_event v w e = record { events = []; played = e }

  one_event : (e : Event) (v w : Window) → w ≡ happens blocks budget e v → ByEvents blocks budget v w
  one_event e v w is = record { events = e ∷ []; played = is }

  and_then : (u v w : Window) → ByEvents blocks budget u v → ByEvents blocks budget v w → ByEvents blocks budget u w
  and_then u v w a b = record {
    events = a.events ++ b.events;
    played = b.played ∙ ap (plays blocks budget b.events) a.played ∙ sym (plays_on blocks budget a.events b.events u);
  }

  -- an event other than Commit neither ends the run nor goes on with it
  pub over_stays : (e : Event) (w : Window) → (e ≡ window.Commit → ⊥) → (happens blocks budget e w).over ≡ w.over
  over_stays e w n = go (can blocks budget e w)
    where
      fetches : (k : ℕ) (o : Option ℕ) (b : Option Block) → (fetched k o b w).over ≡ w.over
      fetches k None b = refl
      fetches k (Some m) None = refl
      fetches k (Some m) (Some b) = refl

      by : (e : Event) → (e ≡ window.Commit → ⊥) → (done blocks e w).over ≡ w.over
      by (window.Fetch k) n = fetches k (lowest_empty 8 0 w.frames) (slice_get blocks k)
      by (window.Read a b) n = refl
      by (window.Fire a b) n = refl
      by (window.Deliver a) n = refl
      by (window.Load a b) n = refl
      by (window.Store a b) n = refl
      by (window.Exit a) n = refl
      by (window.Seal a) n = refl
      by (window.Flush a) n = refl
      by window.Commit n = absurd (n refl)

      go : (h : Happened) → (if_done h (done blocks e w) w).over ≡ w.over
      go Done = by e n
      go (NotNow c) = refl

module _ {W : Type 0} where
  -- what is flushed leaves the window
  pub flushed_window : (fs : List Frame) (g : Grid W) → (flushed fs g).window ≡ g.window
  flushed_window [] g = refl
  flushed_window (f ∷ fs) g = refl

  learning_window : (f : Frame) (e : Option Exit) (g : Grid W) → (learning f e g).window ≡ g.window
  learning_window f None g = refl
  learning_window f (Some e) g = refl

  -- what a commit takes along leaves the window
  pub committed_window : (s : Stepped) (f : Frame) (fs : List Frame) (g : Grid W)
      → (committed_as s f fs g).window ≡ g.window
  committed_window stepped.Went f fs g = learning_window f f.exit _
  committed_window stepped.Ended f fs g = learning_window f f.exit _
  committed_window stepped.StackFull f fs g = learning_window f f.exit _
  committed_window (stepped.Trap c) f fs g = refl

module _ {W : Type 0} (blocks : List Block) (budget : ℕ) where
  commit_events : (fs : List Frame) (g : Grid W)
      → ByEvents blocks budget g.window (commit_in blocks budget fs g).window
  commit_events [] g = no_event blocks budget g.window g.window refl
  commit_events (f ∷ fs) g = one_event blocks budget window.Commit g.window _
      (committed_window (happens blocks budget window.Commit g.window).over f fs
      (record g { window = happens blocks budget window.Commit g.window }))

  abbrev Played : Grid W → Grid W → Type 0
  Played g h = ByEvents blocks budget g.window h.window

  keeps : Keeps every blocks budget Played
  keeps = by_window every blocks budget Played (record {
    same = λ g. no_event blocks budget g.window g.window refl;
    chain = λ g m h. and_then blocks budget g.window m.window h.window;
    quiet = λ g h e c. no_event blocks budget g.window h.window e;
    single = λ e l g h is c. one_event blocks budget e g.window h.window is;
    flushing = λ e l g. one_event blocks budget e g.window _
        (flushed_window (gone g.window (happens blocks budget e g.window))
        (record g { window = happens blocks budget e g.window }));
    filling = λ c f g may. one_event blocks budget (window.Fetch f.block) g.window _ refl;
    committing = λ c g may. commit_events g.window.frames g;
    counting = λ c g. no_event blocks budget g.window g.window refl;
  })

  -- the window after an eager cycle is come to by events
  pub eager_steps : (next : W → ℕ) (follows : W → W → Type 0) (g h : Grid W) → Eager next follows blocks budget g h
      → ByEvents blocks budget g.window h.window
  eager_steps = eager_keeps blocks budget Played keeps

  -- the window after some cycles is come to by events
  pub cycles_steps : (next : W → ℕ) (follows : W → W → Type 0) (n : ℕ) (g h : Grid W)
      → AfterCycles next follows blocks budget n g h
      → ByEvents blocks budget g.window h.window
  cycles_steps = cycles_keep blocks budget Played keeps
