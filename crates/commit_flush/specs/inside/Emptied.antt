-- Frames by number of which some were emptied.
use Rattle.std.specs.Prelude.{◌≡◌, ℕ, List, All, map, length}
use Rattle.trips_isa.specs.declared.block.Block.{Block}
use Rattle.commit_flush.specs.inside.Places.{cleared}
use Rattle.frame_state.specs.declared.phase.Phase.{Phase}
use Rattle.frame_state.specs.inside.Phases.{HasBlock, generation_of, number_of, slots_of}

-- the frames of these numbers are empty, each keeps its number and its generation, and the others are as they were
pub record IsEmptied (ns : List ℕ) (old new : List Phase) : Type 0 where
  -- as many frames as before
  pub size : length new ≡ length old
  pub generations : map generation_of new ≡ map generation_of old
  pub numbers : map number_of new ≡ map number_of old
  -- no frame in flight has one of these numbers any more
  pub slots : (blocks : List Block) → slots_of blocks new ≡ cleared ns (slots_of blocks old)
  -- a frame in flight holds a block of the image still
  pub blocks : (blocks : List Block) → All (HasBlock blocks) old → All (HasBlock blocks) new
