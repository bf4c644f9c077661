-- The grid as plain data: a window, and what moves it (docs/GRID.md, "The grid").
use Rattle.std.specs.Prelude.{ℕ, ◌==◌, ◌||◌, Bool, false, cond, List, [], ◌∷◌, map, Option}
use Rattle.trips_isa.specs.declared.run.Counts.{Counts}
use Rattle.operand_net.specs.Places.{Places}
use Rattle.operand_net.specs.declared.parcel.Stand.TheVariants.{Nowhere}
use Rattle.block_predict.specs.Predicts.{Holding}
use Rattle.commit_flush_spec.specs.Frames.{Frame}
use Rattle.commit_flush_spec.specs.Window.{Window}

-- a fetch under way: the cycles that it still takes beyond the next, the block, the history that stands, and
-- whether it makes a careful frame
pub record Fetching : Type 0 where
  pub left : ℕ
  pub block : ℕ
  pub history : ℕ
  pub careful : Bool

-- the grid; frames are named by number, 0 to 7
pub record Grid (W : Type 0) : Type 0 where
  -- the frames in flight over the committed state, which the events of the window alone change
  pub window : Window
  -- where the parcel of each frame's place stands
  pub parcels : Places
  -- whether the request with a number has come to its data tile
  pub asked : ℕ → ℕ → Bool
  -- how long each tile's unit is busy, and whether the result of a frame's slot is in a unit
  pub units : ℕ → ℕ
  pub works : ℕ → ℕ → Bool
  -- what the fetch unit does
  pub fetching : Option Fetching
  -- the flushed block that stands as the predicted next block
  pub standing : Option ℕ
  -- the waiting bits of loads, below 1,024
  pub waits : ℕ → Bool
  -- the careful frames, and each frame's history
  pub careful : ℕ → Bool
  pub histories : ℕ → ℕ
  -- what has been learned of exits, with the history and the return stack of what is fetched
  pub predictor : Holding
  -- what says for how many cycles a parcel that arrives next is held
  pub weather : W
  -- cycles made, and frames fetched, committed and flushed
  pub counts : Counts

-- the frames in flight by their numbers, the oldest first
abbrev pub numbers_of : List Frame → List ℕ
numbers_of fs = map (λ (f : Frame). f.number) fs

-- whether a number is that of one of some frames
abbrev pub is_of : List Frame → ℕ → Bool
is_of [] n = false
is_of (f ∷ fs) n = (f.number == n) || is_of fs n

-- a frame's parcels, its requests at data tiles and its results in units are forgotten; the units stay busy
abbrev pub forget : {W : Type 0} → (ℕ → Bool) → Grid W → Grid W
forget gone g = record g {
  parcels = λ f p. cond (gone f) Nowhere (g.parcels f p);
  asked = λ f n. cond (gone f) false (g.asked f n);
  works = λ f s. cond (gone f) false (g.works f s);
}
