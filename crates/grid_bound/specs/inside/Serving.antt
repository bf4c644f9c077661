-- One cycle as the oldest frame sees it, whatever the others do: at each station it comes first.
use Rattle.std.specs.Prelude.{◌≡◌, ℕ, suc, ◌≤◌, ◌⊎◌, true, false}
use Rattle.grid_bound.specs.inside.Course.{Course, tasks, Good}
use Rattle.grid_bound.specs.inside.Lane.{Stage, Lane, is_complete}
use Rattle.grid_bound.specs.inside.Sending.{fetching, reading}
use Rattle.grid_bound.specs.inside.Answering.{TilesAnswer}
use Rattle.grid_bound.specs.inside.Turning.{turning, own_units}
use Rattle.grid_bound.specs.inside.Moving.{moving}

-- the oldest frame is served in a cycle, or the fetch of the block that commits next goes on, which may fill a frame
-- of a good course; `sizes` tells how many tasks the n-th committed block has
pub record Serves (sizes : ℕ → ℕ) (l m : Lane) : Type 0 where
  -- of a frame that the fetch fills in this cycle: its generation and its course, which has as many
  -- tasks as the block that commits next
  pub generation : ℕ
  pub filled : Course
  pub is_filled : tasks filled ≡ sizes l.done
  pub good : Good filled
  -- the stage behind parts (2) to (4): one of those to which the data tiles may come
  pub answered : Stage
  pub answers : TilesAnswer 4 (reading (fetching generation filled l.stage)) answered
  -- how long the parcel of each place is held, if it arrives in this cycle
  pub hold : ℕ → ℕ
  pub holds : (p : ℕ) → hold p ≤ 3
  -- a unit that is busy behind the frame's turn stays so for as long; one that is free another
  -- frame may take
  pub units : (t : ℕ) → m.units t ≤ 24
  pub own : (t : ℕ) → 1 ≤ own_units l.units answered t → m.units t ≡ own_units l.units answered t
  -- the stage behind parts (5) and (6)
  pub stage : m.stage ≡ moving hold (turning l.units answered)
  -- no block is committed in a cycle that serves one
  pub done : m.done ≡ l.done

-- a complete frame is committed, and the lane goes on with the next block; else the oldest frame is served
abbrev pub Served : (ℕ → ℕ) → Lane → Lane → Type 0
Served sizes l m = ((is_complete l.stage ≡ true) × (m.done ≡ suc l.done))
    ⊎ ((is_complete l.stage ≡ false) × Serves sizes l m)
