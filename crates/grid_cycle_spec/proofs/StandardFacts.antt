-- Worked rows of the definitions.
use Rattle.std.proofs.Common.{◌≡◌, ℕ, ◌==◌, ◌||◌, false, [], ◌∷◌, Some, None, refl}
use Rattle.trips_isa.specs.declared.block.Block.{Block}
use Rattle.trips_isa.specs.declared.op.Op.TheVariants.{Add, Mul, Divs, Ld}
use Rattle.trips_isa.specs.Machine.{State}
use Rattle.commit_flush_spec.specs.Frames.{Frame, Bytes, fresh, numbers}
use Rattle.commit_flush_spec.specs.Window.{opened}
use Rattle.operand_net.specs.Tick.{next_of}
use Rattle.grid_cycle_spec.specs.Stations.{control, bank_node, data_node, tile_node, tile_of, bank_of}
use Rattle.grid_cycle_spec.specs.Stations.{data_tile_of}
use Rattle.grid_cycle_spec.specs.inside.Stations.{far}
use Rattle.grid_cycle_spec.specs.Costs.{latency}
use Rattle.grid_cycle_spec.specs.Choosing.{least, each}
use Rattle.grid_cycle_spec.specs.Grid.{Grid}
use Rattle.grid_cycle_spec.specs.Fetches.{fetches}
use Rattle.grid_cycle_spec.specs.Units.{unit_on}
use Rattle.grid_cycle_spec.specs.DataTiles.{bit_of, by_block, wrong_from, wrong_load}
use Rattle.grid_cycle_spec.specs.Cycles.{begun_at, counted}

-- nodes: 5 by 5, row by row
pub control_is : control ≡ 0
control_is = refl

pub last_bank : bank_node 3 ≡ 4
last_bank = refl

pub last_data_tile : data_node 3 ≡ 20
last_data_tile = refl

pub first_tile : tile_node 0 ≡ 6
first_tile = refl

pub last_tile : tile_node 15 ≡ 24
last_tile = refl

-- slot 37 is on tile 5, register 7 in bank 3, address 320 at data tile 1
pub tile_of_slot : tile_of 37 ≡ 5
tile_of_slot = refl

pub bank_of_register : bank_of 7 ≡ 3
bank_of_register = refl

pub tile_of_address : data_tile_of 320 ≡ 1
tile_of_address = refl

-- the bit of number 1 of block 32 is that of number 1 of block 0
pub waiting_bit : bit_of 32 1 ≡ 1
waiting_bit = refl

-- frame 3 has just stored bytes 8 and 9 by number 0; frame 5, of block 7, has loaded byte 10 by number 0 and byte 9
-- by number 1
abbrev pub storing : Block → Frame
storing b = record (fresh 3 4 b) {
  loads = [];
  stores = Some (record { number = 0; address = 8; size = 2; value = Some 4660 }) ∷ [];
}

abbrev pub guessing : Block → Frame
guessing b = record (fresh 5 7 b) { loads = Some (Bytes 10 1) ∷ Some (Bytes 9 1) ∷ []; stores = [] }

pub second_is_wrong : (b : Block) → wrong_from 0 (storing b) (guessing b ∷ []) ≡ Some (5, 1)
unfolding numbers
second_is_wrong b = refl

pub its_block : (b : Block) → by_block (storing b ∷ guessing b ∷ []) (Some (5, 1)) ≡ Some (7, 1)
its_block b = refl

pub no_frame_to_store : (s : State) → wrong_load [] 9 3 0 (opened s) ≡ None
no_frame_to_store s = refl

-- from control to the last tile: along the row, then along the column
pub corner_to_corner : far 0 24 ≡ 8
corner_to_corner = refl

pub row_first : next_of 0 24 ≡ 1
row_first = refl

pub then_column : next_of 4 24 ≡ 9
then_column = refl

pub times : latency Add ∷ latency Mul ∷ latency Divs ∷ latency Ld ∷ [] ≡ 1 ∷ 3 ∷ 24 ∷ 1 ∷ []
times = refl

pub lowest_of_some : least (λ k. (k == 3) || (k == 5)) 8 0 ≡ Some 3
lowest_of_some = refl

pub in_ascending_order : each (λ k ks. k ∷ ks) 3 [] ≡ 2 ∷ 1 ∷ 0 ∷ []
in_ascending_order = refl

-- a grid at its start, over a state whose next block is block 4
abbrev pub at_start : Grid ℕ
at_start = begun_at (record { registers = []; memory = []; next = 4; rest = []; output = []; trace = [] }) [] 0

-- its fetch unit begins to fetch that block: the event comes in the eighth cycle after this one
pub first_fetch : (fetches [] 9 at_start).fetching
    ≡ Some (record { left = 7; block = 4; history = 0; careful = false })
first_fetch = refl

pub second_cycle : (fetches [] 9 (fetches [] 9 at_start)).fetching
    ≡ Some (record { left = 6; block = 4; history = 0; careful = false })
second_cycle = refl

-- a unit that is busy for three cycles is busy for two more; in its last cycle it is free again
pub unit_goes_on : (unit_on 2 3 at_start).units 2 ≡ 2
unit_goes_on = refl

pub unit_is_free : (unit_on 2 1 at_start).units 2 ≡ 0
unit_is_free = refl

pub one_cycle : (counted at_start).counts.cycles ≡ 1
one_cycle = refl
