-- What is noted of part (2) of a cycle, of what is seen of the grid before and behind.
use Rattle.std.specs.Prelude.{ℕ, Bool, false, cond, List, [], ◌∷◌, Option, Some, None, is_none}
use Rattle.trips_isa.specs.declared.block.Block.{Block}
use Rattle.commit_flush_spec.specs.Frames.{Frame}
use Rattle.commit_flush_spec.specs.Window.{Window, Fetch, can}
use Rattle.grid_cycle_spec.specs.Acting.{is_done}
use Rattle.grid_cycle_spec.specs.Fetches.{filled}
use Rattle.grid_events.specs.Notes.{Note, Begins, Predicts, GivesUp, Fetches}

-- whether the frame of a fetch that is due is filled
abbrev pub may_fill : List Block → ℕ → Option ℕ → Window → Bool
may_fill blocks budget None w = false
may_fill blocks budget (Some k) w = is_done (can blocks budget (Fetch k) w)

-- a fetch that is due fills a frame, or is given up
abbrev pub due_notes : Option ℕ → Bool → Option ℕ → List Note
due_notes None may room = []
due_notes (Some k) may room = cond may (Fetches (filled room) k ∷ []) (GivesUp k ∷ [])

-- the number of the youngest frame, where its exit has not come
abbrev pub open_youngest : List Frame → Option ℕ
open_youngest [] = None
open_youngest (f ∷ []) = cond (is_none f.exit) (Some f.number) None
open_youngest (f ∷ (h ∷ fs)) = open_youngest (h ∷ fs)

-- the frame behind which a block is predicted: an open one, where no flushed block stands
abbrev pub guesses : Option ℕ → Option ℕ → Option ℕ
guesses None o = o
guesses (Some k) o = None

-- a prediction, where one was made, before other notes
abbrev pub predicted_if : Option ℕ → ℕ → List Note → List Note
predicted_if None k es = es
predicted_if (Some n) k es = Predicts n k ∷ es

-- a fetch that has begun, by its block and whether it is careful, and the frame behind which it was predicted
abbrev pub begun_notes : Option ℕ → Option (ℕ × Bool) → List Note
begun_notes o None = []
begun_notes o (Some f) = predicted_if o f.0 (Begins f.0 f.1 ∷ [])

-- the same where the fetch unit was idle
abbrev pub begun_if : Bool → Option ℕ → Option (ℕ × Bool) → List Note
begun_if idle o after = cond idle (begun_notes o after) []
