-- An event of the window in the grid, and what a flush takes along (docs/GRID.md, "Flushes").
use Rattle.std.specs.Prelude.{ℕ, ◌+◌, Bool, true, false, cond, List, [], ◌∷◌, length, drop}
use Rattle.std.specs.Prelude.{Option, Some, None}
use Rattle.trips_isa.specs.declared.block.Block.{Block}
use Rattle.trips_isa.specs.declared.run.Counts.{Counts}
use Rattle.block_predict.specs.Predicts.{with_history}
use Rattle.commit_flush_spec.specs.Causes.{Happened, Done, NotNow}
use Rattle.commit_flush_spec.specs.Frames.{Frame}
use Rattle.commit_flush_spec.specs.Older.{after_all, committed, follows}
use Rattle.commit_flush_spec.specs.Window.{Window, Event, can, happens}
use Rattle.grid_cycle_spec.specs.Grid.{Grid, Fetching, is_of, forget}

-- whether an event is Done
abbrev pub is_done : Happened → Bool
is_done Done = true
is_done (NotNow c) = false

-- whether an event would be Done
abbrev pub may : {W : Type 0} → List Block → ℕ → Event → Grid W → Bool
may blocks budget e g = is_done (can blocks budget e g.window)

-- the next block, where it is known: the committed one, or the one that the youngest frame's exit names
abbrev pub known_next : Window → Option ℕ
known_next w = (after_all w.frames (committed w.state)).known

-- the fetch that goes on where this is known of the next block
abbrev pub still : Option ℕ → Option Fetching → Option Fetching
still known None = None
still known (Some f) = cond (follows known f.block) (Some f) None

-- the flushed block that still stands where this is known of the next block
abbrev pub standing_on : Option ℕ → Option ℕ → Option ℕ
standing_on known None = None
standing_on known (Some k) = cond (follows known k) (Some k) None

-- what is known of the next block ends a fetch of another block, and a flushed block stands no longer
abbrev pub settled : {W : Type 0} → Grid W → Grid W
settled g = record g {
  fetching = still (known_next g.window) g.fetching;
  standing = standing_on (known_next g.window) g.standing;
}

-- the history goes back to that of the eldest flushed frame
abbrev pub repaired : {W : Type 0} → ℕ → Grid W → Grid W
repaired history g = record g { predictor = with_history history g.predictor }

-- so many frames more have been flushed
abbrev pub flushed_more : ℕ → Counts → Counts
flushed_more n c = record c { flushed = c.flushed + n }

-- these frames, the eldest first, have been flushed: with them go their parcels, requests and results, the fetch
-- of a block behind them, and the flushed block that stood behind an older one
abbrev pub flushed : {W : Type 0} → List Frame → Grid W → Grid W
flushed [] g = g
flushed (f ∷ fs) g = repaired (g.histories f.number) (record (forget (is_of (f ∷ fs)) g) {
  fetching = None;
  standing = None;
  counts = flushed_more (length (f ∷ fs)) g.counts;
})

-- the frames that an event which fills and commits none took away: the youngest of those before
abbrev pub gone : Window → Window → List Frame
gone before after = drop (length after.frames) before.frames

-- an event other than Fetch and Commit, with what its flush takes along
abbrev pub act : {W : Type 0} → List Block → ℕ → Event → Grid W → Grid W
act blocks budget e g =
    let after : Window = happens blocks budget e g.window in
    settled (flushed (gone g.window after) (record g { window = after }))
