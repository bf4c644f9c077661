-- What stations may take, of a window alone.
use Rattle.std.specs.Prelude.{ℕ, ◌==◌, ◌&&◌, ◌||◌, not, Bool, false, List, Option, Some, None, slice_get}
use Rattle.trips_isa.specs.declared.block.Block.{Block}
use Rattle.commit_flush_spec.specs.Frames.{Frame}
use Rattle.commit_flush_spec.specs.Window.{Window, Fire, Read, can}
use Rattle.grid_cycle_spec.specs.Stations.{bank_of, tile_of}
use Rattle.grid_cycle_spec.specs.Acting.{is_done}
use Rattle.grid_cycle_spec.specs.Banks.{is_bank, bank_in}
use Rattle.grid_cycle_spec.specs.Choosing.{least, slots, reads}
use Rattle.commit_flush_spec.specs.Frames.{numbers}
use Rattle.grid_cycle_spec.specs.Grid.{Grid}
use Rattle.grid_cycle_spec.specs.DataTiles.{all_resolved, answers_request, bit_of}
use Rattle.grid_parts.specs.inside.Asked.{frame_of, found_in, register_of, store_in, tile_in}
use Rattle.grid_parts.specs.declared.windows.Request.{Request}

-- whether a slot of the frame of a number may fire on a tile
abbrev pub may_fire : List Block → ℕ → Window → ℕ → ℕ → ℕ → Bool
may_fire blocks budget w tile n s = (tile_of s == tile) && is_done (can blocks budget (Fire n s) w)

-- the lowest such slot
abbrev pub lowest_ready : List Block → ℕ → Window → ℕ → ℕ → Option ℕ
lowest_ready blocks budget w tile n = least (may_fire blocks budget w tile n) slots 0

-- whether a slot of a frame may fire on a tile
abbrev pub fires : List Block → ℕ → Window → ℕ → Frame → ℕ → Bool
fires blocks budget w tile f s = may_fire blocks budget w tile f.number s

-- whether a register is in a bank
abbrev pub in_bank : ℕ → Option ℕ → Bool
in_bank bank None = false
in_bank bank (Some r) = bank_of r == bank

-- whether a bank may answer a read of the frame of a number
abbrev pub may_read : List Block → ℕ → Window → ℕ → ℕ → ℕ → Bool
may_read blocks budget w bank n r =
    in_bank bank (register_of n r w.frames) && is_done (can blocks budget (Read n r) w)

-- the lowest such read
abbrev pub lowest_read : List Block → ℕ → Window → ℕ → ℕ → Option ℕ
lowest_read blocks budget w bank n = least (may_read blocks budget w bank n) reads 0

-- whether a bank may answer a read of a frame
abbrev pub answers : List Block → ℕ → Window → ℕ → Frame → ℕ → Bool
answers blocks budget w bank f r =
    is_bank bank (bank_in (slice_get f.code.reads.items r)) && is_done (can blocks budget (Read f.number r) w)

-- whether a load of a frame of this number and block may be answered
abbrev pub load_goes : {W : Type 0} → Grid W → ℕ → ℕ → ℕ → Bool
load_goes g n block k =
    not (g.waits (bit_of block k) || g.careful n) || all_resolved n k g.window.frames

-- whether a data tile may answer what waits with a number in such a frame
abbrev pub served : {W : Type 0} → Grid W → ℕ → ℕ → ℕ → ℕ → Option Request → Bool
served g tile n block k q = (g.asked n k && (tile_in q == tile)) && (store_in q || load_goes g n block k)

-- the lowest request of the frame of a number that a data tile may answer
abbrev pub lowest_request : {W : Type 0} → Grid W → ℕ → ℕ → Option ℕ
lowest_request g tile n = found_in (λ f. least (answers_request g tile f) numbers 0) (frame_of n g.window.frames)
