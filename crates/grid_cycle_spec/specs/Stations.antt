-- Where the stations of the grid stand on the mesh, and which of them serves what (docs/GRID.md, "Stations").
-- Source: the tiled core of TRIPS, 16 execution tiles, 4 register banks, 4 data tiles and a control tile on a
-- mesh of 5 by 5, Burger et al., IEEE Computer, July 2004. Own: the numbers of the nodes, and which slot,
-- register and address belongs where.
use Rattle.std.specs.Prelude.{ℕ, ◌+◌, ◌-◌, ◌*◌, ◌/◌, ◌%◌, cond, nat_lt, slice_index_or}
use Rattle.trips_isa.specs.declared.block.Block.{Block}
use Rattle.trips_isa.specs.PlaceNumbers.{first_write}

-- the node in a row and a column
abbrev pub node : ℕ → ℕ → ℕ
node row column = 5 * row + column

-- the node of the control tile, where branches go
abbrev pub control : ℕ
control = node 0 0

-- the node of a register bank, 0 to 3
abbrev pub bank_node : ℕ → ℕ
bank_node bank = node 0 (1 + bank)

-- the node of a data tile, 0 to 3
abbrev pub data_node : ℕ → ℕ
data_node tile = node (1 + tile) 0

-- the node of an execution tile, 0 to 15
abbrev pub tile_node : ℕ → ℕ
tile_node tile = node (1 + tile / 4) (1 + tile % 4)

-- how many banks, data tiles and execution tiles there are
abbrev pub banks : ℕ
banks = 4

-- each of them serves a quarter of the addresses
abbrev pub data_tiles : ℕ
data_tiles = 4

-- each of them serves eight slots of a block
abbrev pub tiles : ℕ
tiles = 16

-- the tile on which a slot lies
abbrev pub tile_of : ℕ → ℕ
tile_of slot = slot % tiles

-- the bank in which a register is
abbrev pub bank_of : ℕ → ℕ
bank_of register = register % banks

-- the data tile that serves an address, 64 bytes in turn
abbrev pub data_tile_of : ℕ → ℕ
data_tile_of address = address / 64 % data_tiles

-- the node at which a place of a block is: an operand or a predicate at the tile of its slot, a write at the
-- bank of its register
abbrev pub home : Block → ℕ → ℕ
home b q = cond (nat_lt q first_write) (tile_node (tile_of (q % 128)))
    (bank_node (bank_of (slice_index_or b.writes.items (q - first_write) 0)))
