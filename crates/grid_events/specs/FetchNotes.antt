-- The notes of part (2) of a cycle (docs/GRID.md, "Fetches").
use Rattle.std.specs.Prelude.{ℕ, zero, suc, ◌+◌, Bool, true, false, cond, List, [], ◌∷◌, ◌++◌, Option, Some, None}
use Rattle.trips_isa.specs.declared.block.Block.{Block}
use Rattle.block_predict.specs.Predicts.{predicted}
use Rattle.commit_flush_spec.specs.Frames.{Frame, Exit}
use Rattle.commit_flush_spec.specs.Window.{lowest_empty}
use Rattle.commit_flush_spec.specs.Window as window
use Rattle.grid_cycle_spec.specs.Grid.{Grid, Fetching}
use Rattle.grid_cycle_spec.specs.Acting.{may}
use Rattle.grid_cycle_spec.specs.Fetches.{filled, stands, may_begin, fetch_ends}
use Rattle.grid_events.specs.Notes.{Note, Begins, Predicts, GivesUp, Fetches}

-- beside `fill_where`: a frame is filled, or the fetch is given up
abbrev pub fill_notes : {W : Type 0} → Bool → Fetching → Grid W → List Note
fill_notes true f g = Fetches (filled (lowest_empty 8 0 g.window.frames)) f.block ∷ []
fill_notes false f g = GivesUp f.block ∷ []

-- beside `fetch_on`: only a fetch whose time is over is noted
abbrev pub on_notes : {W : Type 0} → List Block → ℕ → ℕ → Fetching → Grid W → List Note
on_notes blocks budget zero f g = fill_notes (may blocks budget (window.Fetch f.block) g) f g
on_notes blocks budget (suc left) f g = []

-- beside `fetch_ends`
abbrev pub fetch_notes : {W : Type 0} → List Block → ℕ → Option Fetching → Grid W → List Note
fetch_notes blocks budget None g = []
fetch_notes blocks budget (Some f) g = on_notes blocks budget f.left f g

-- beside `begun_predicted`: what is predicted behind the frame of a number is fetched
abbrev pub predicted_notes : ℕ → Option ℕ → List Note
predicted_notes n None = []
predicted_notes n (Some next) = Predicts n next ∷ Begins next false ∷ []

-- beside `begun_guess`: the flushed block that stands is no prediction
abbrev pub guess_notes : {W : Type 0} → List Block → Option ℕ → Frame → Grid W → List Note
guess_notes blocks (Some k) f g = Begins k true ∷ []
guess_notes blocks None f g = predicted_notes f.number (predicted blocks g.predictor f.block)

-- beside `begun_behind`: nor is the block that the exit of the youngest frame names
abbrev pub behind_notes : {W : Type 0} → List Block → Frame → Option Exit → Grid W → List Note
behind_notes blocks f (Some e) g = Begins e.successor (stands g.standing e.successor) ∷ []
behind_notes blocks f None g = guess_notes blocks g.standing f g

-- beside `begun_after`
abbrev pub after_notes : {W : Type 0} → List Block → List Frame → Grid W → List Note
after_notes blocks [] g = Begins g.window.state.next (stands g.standing g.window.state.next) ∷ []
after_notes blocks (f ∷ []) g = behind_notes blocks f f.exit g
after_notes blocks (f ∷ (h ∷ fs)) g = after_notes blocks (h ∷ fs) g

-- beside `fetch_begins`
abbrev pub begin_notes : {W : Type 0} → List Block → Option Fetching → Grid W → List Note
begin_notes blocks (Some f) g = []
begin_notes blocks None g = cond (may_begin g) (after_notes blocks g.window.frames g) []

-- part (2): beside `fetches`
abbrev pub fetches_notes : {W : Type 0} → List Block → ℕ → Grid W → List Note
fetches_notes {W = W} blocks budget g =
    let m : Grid W = fetch_ends blocks budget g.fetching g in
    fetch_notes blocks budget g.fetching g ++ begin_notes blocks m.fetching m
