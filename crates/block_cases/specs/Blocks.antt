-- The nodes of a block, and the places that it declares. Source: the store mask and the write slots of
-- the TRIPS Processor Reference Manual, UT Austin TR-05-19.
use Rattle.std.specs.Prelude.{ℕ, ◌+◌, ◌-◌, Bool, ◌&&◌, ◌||◌, nat_lt, nat_le}
use Rattle.std.specs.Prelude.{length}
use Rattle.trips_isa.specs.declared.block.Block.{Block}
pub use Rattle.trips_isa.specs.Forms.{form_of, role_of, takes_left, takes_right, is_load, is_store}
pub use Rattle.trips_isa.specs.Places.{place_of, place_at, first_place, load_bound, read_node}
pub use Rattle.trips_isa.specs.Places.{inst_node, inst_nodes, nodes_of, in_mask}
use Rattle.trips_isa.specs.PlaceNumbers.{first_write, first_store, exit_place}

-- the declared writes and the numbers of the mask
abbrev pub wanted_of : Block → ℕ → Bool
wanted_of b q =
    (nat_le first_write q && nat_lt q (first_write + length b.writes.items))
    || (nat_le first_store q && (nat_lt q exit_place && in_mask b.mask (q - first_store)))
