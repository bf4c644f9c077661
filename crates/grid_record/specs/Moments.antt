-- A grid between two cycles, as bytes (README.md of this crate). Numbers have their highest byte first. Own: the
-- format.
use Rattle.std.specs.Prelude.{ℕ, ◌+◌, Bool, cond, List, [], ◌∷◌, ◌++◌, length, Option, Some, None, is_some}
use Rattle.std.specs.Prelude.{slice_index, slice_index_or, false}
use Rattle.byteorder.specs.Endian.{big_bytes}
use Rattle.trips_isa.specs.declared.block.Block.{Block}
use Rattle.trips_isa.specs.declared.run.Counts.{Counts}
use Rattle.trips_isa.specs.declared.run.Ending.{Ending}
use Rattle.trips_isa.specs.declared.run.Ending.TheVariants as ending
use Rattle.trips_isa.specs.Rule.{Answer}
use Rattle.commit_flush_spec.specs.Frames.{Exit, Frame, at}
use Rattle.commit_flush_spec.specs.Window.{Window, Fire}
use Rattle.commit_flush.specs.Places.{numbers_of}
use Rattle.commit_flush.specs.inside.Places.{frame_of}
use Rattle.grid_cycle_spec.specs.Acting.{may}
use Rattle.grid_cycle_spec.specs.Grid.{Grid}
use Rattle.grid_machine.specs.Endings.{ended}
use Rattle.grid_record.specs.Pieces.{pieces}

-- cycles made, and frames fetched, committed and flushed
abbrev pub counts_bytes : Counts → List ℕ
counts_bytes c = big_bytes 8 c.cycles
    ++ (big_bytes 8 c.fetched ++ (big_bytes 8 c.committed ++ big_bytes 8 c.flushed))

-- how a run stands: 0 where it goes on, else how it has ended
abbrev pub standing_byte : Option Ending → ℕ
standing_byte None = 0
standing_byte (Some ending.Ended) = 1
standing_byte (Some ending.StackFull) = 2
standing_byte (Some ending.Budget) = 3
standing_byte (Some (ending.Trap block cause)) = 4

-- the flushed block that stands as the predicted next one, where a wrong load had it flushed: 1 and its number, or 0s
abbrev pub block_bytes : Option ℕ → List ℕ
block_bytes None = 0 ∷ big_bytes 4 0
block_bytes (Some k) = 1 ∷ big_bytes 4 k

-- slots ------------------------------------------------------------------------------------------

-- a number where a flag is set, else 0
abbrev pub weight : ℕ → Bool → ℕ
weight n flag = cond flag n 0

-- a slot: 1 where its left operand has come, 2 the right one, 4 the predicate, 8 where it has fired, 16 where it may
-- fire
abbrev pub slot_byte : List Answer → List Bool → Bool → ℕ → ℕ
slot_byte spots fired ready s = weight 1 (is_some (at spots s)) + weight 2 (is_some (at spots (128 + s)))
    + weight 4 (is_some (at spots (256 + s))) + weight 8 (slice_index_or fired s false) + weight 16 ready

-- frames -----------------------------------------------------------------------------------------

-- 1 for a frame that runs, 2 for a sealed one
abbrev pub phase_byte : Bool → ℕ
phase_byte sealed = cond sealed 2 1

-- the number of the exit that has come, 255 where none has
abbrev pub exit_byte : Option Exit → ℕ
exit_byte None = 255
exit_byte (Some e) = e.exit

-- a place of a frame in which a token is on its way: its number
abbrev pub token_bytes : Bool → ℕ → List ℕ
token_bytes travels p = cond travels (big_bytes 2 p) []

-- the tokens of a frame that are on their way: those of 256 places of slots and 64 of reads, and 65,535
abbrev pub tokens_bytes : List Answer → List ℕ
tokens_bytes places = pieces (λ p. token_bytes (is_some (at places p)) p) 320 ++ 255 ∷ 255 ∷ []

-- a frame in flight: its phase, whether it is careful, its exit, its block, its 128 slots, and the tokens on their
-- way
abbrev pub flying_bytes : Bool → (ℕ → Bool) → Frame → List ℕ
flying_bytes careful may f = phase_byte f.sealed ∷ weight 1 careful ∷ exit_byte f.exit
    ∷ (big_bytes 4 f.block ++ (pieces (λ s. slot_byte f.spots f.fired (may s) s ∷ []) 128 ++ tokens_bytes f.places))

-- the frame of a number, 0 where none in flight has it
abbrev pub frame_bytes : Bool → (ℕ → Bool) → Option Frame → List ℕ
frame_bytes careful may None = 0 ∷ []
frame_bytes careful may (Some f) = flying_bytes careful may f

-- moments ----------------------------------------------------------------------------------------

-- how the run stands, the numbers of the frames in flight, the oldest first, behind how many they are, and the block
-- that stands
abbrev pub window_bytes : ℕ → Window → Option ℕ → List ℕ
window_bytes budget w standing = standing_byte (ended budget w) ∷ length w.frames
    ∷ (numbers_of w.frames ++ block_bytes standing)

-- the eight frames by number
abbrev pub frames_bytes : {W : Type 0} → List Block → ℕ → Grid W → List ℕ
frames_bytes blocks budget g = pieces (λ n. frame_bytes (g.careful n) (λ s. may blocks budget (Fire n s) g)
    (frame_of n g.window.frames)) 8

-- the 128 committed registers, and how long the output is
abbrev pub state_bytes : Window → List ℕ
state_bytes w = pieces (λ r. big_bytes 8 (slice_index w.state.registers r)) 128
    ++ big_bytes 8 (length w.state.output)

-- a grid between two cycles: 1, then counts, window, frames and committed state
abbrev pub moment_bytes : {W : Type 0} → List Block → ℕ → Grid W → List ℕ
moment_bytes blocks budget g = 1 ∷ (counts_bytes g.counts ++ (window_bytes budget g.window g.standing
    ++ (frames_bytes blocks budget g ++ state_bytes g.window)))
