-- Part (3) of a cycle: banks answer reads (docs/GRID.md, "A cycle").
use Rattle.std.specs.Prelude.{ℕ, ◌+◌, ◌*◌, ◌==◌, Bool, false, ◌&&◌, List, Option, Some, None, slice_get}
use Rattle.trips_isa.specs.declared.block.ReadSlot.{ReadSlot}
use Rattle.trips_isa.specs.declared.block.Block.{Block}
use Rattle.commit_flush_spec.specs.Frames.{Frame, first_read_place}
use Rattle.commit_flush_spec.specs.Window.{Window, Read, happens}
use Rattle.grid_cycle_spec.specs.Stations.{bank_of, bank_node, banks}
use Rattle.grid_cycle_spec.specs.Grid.{Grid}
use Rattle.grid_cycle_spec.specs.Acting.{may}
use Rattle.grid_cycle_spec.specs.Choosing.{eldest, each, reads, with_frame}
use Rattle.grid_cycle_spec.specs.Sending.{enter_both}

-- the bank of a read
abbrev pub bank_in : Option ReadSlot → Option ℕ
bank_in None = None
bank_in (Some r) = Some (bank_of r.register)

-- whether a bank is that of a read
abbrev pub is_bank : ℕ → Option ℕ → Bool
is_bank bank None = false
is_bank bank (Some b) = b == bank

-- whether a bank may answer read r of a frame
abbrev pub answers_read : {W : Type 0} → List Block → ℕ → Grid W → ℕ → Frame → ℕ → Bool
answers_read blocks budget g bank f r =
    is_bank bank (bank_in (slice_get f.code.reads.items r)) && may blocks budget (Read f.number r) g

-- a bank answers a read, and its tokens enter the mesh
abbrev pub read_chosen : {W : Type 0} → List Block → ℕ → ℕ → Option (ℕ × ℕ) → Grid W → Grid W
read_chosen blocks budget bank None g = g
read_chosen blocks budget bank (Some q) g =
    let after : Window = happens blocks budget (Read q.0 q.1) g.window in
    with_frame q.0 (λ f h. enter_both (bank_node bank) f (first_read_place + 2 * q.1) h) after.frames
    (record g { window = after })

-- a bank answers its eldest answerable read
abbrev pub bank_turn : {W : Type 0} → List Block → ℕ → ℕ → Grid W → Grid W
bank_turn blocks budget bank g =
    read_chosen blocks budget bank (eldest (answers_read blocks budget g bank) reads g.window.frames) g

-- part (3)
abbrev pub reads_answered : {W : Type 0} → List Block → ℕ → Grid W → Grid W
reads_answered blocks budget g = each (bank_turn blocks budget) banks g
