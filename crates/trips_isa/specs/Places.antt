-- Places of a block as numbers, and its reads and slots as nodes that name places (docs/MACHINE.md,
-- "Places"). Source: instructions name their consumers, Burger et al., IEEE Computer, July 2004. Own:
-- the numbers, and that stores and branches name places like others.
use Rattle.std.specs.Prelude.{ℕ, suc, ◌+◌, ◌/◌, ◌%◌, ◌^◌, Bool, false, ◌==◌, ◌&&◌, ◌||◌, nat_lt}
use Rattle.std.specs.Prelude.{List, [], ◌∷◌, ◌++◌, map, Option, Some, None}
use Rattle.trips_isa.specs.declared.block.Spot.{Spot}
use Rattle.trips_isa.specs.declared.block.Spot.TheVariants as spot
use Rattle.trips_isa.specs.declared.block.Sense.TheVariants.{Always}
use Rattle.trips_isa.specs.declared.block.Inst.{Inst}
use Rattle.trips_isa.specs.declared.block.ReadSlot.{ReadSlot}
use Rattle.trips_isa.specs.declared.block.Block.{Block}
use Rattle.trips_isa.specs.declared.form.Form.{Form}
use Rattle.trips_isa.specs.declared.form.Form.TheVariants.{Load, Store, Branch}
use Rattle.trips_isa.specs.declared.form.Role.TheVariants.{Empty, Reading}
use Rattle.trips_isa.specs.declared.node.Node.{Node}
use Rattle.trips_isa.specs.PlaceNumbers.{first_write, first_store, exit_place, place_count, no_place}
use Rattle.trips_isa.specs.Forms.{form_of, role_of}

-- s is the left operand of slot s, 128 + s the right one, 256 + s the predicate, then come the
-- writes, the store numbers and the exit, in the order of spots. A read and a slot themselves are no
-- place.
abbrev pub place_of : Spot → ℕ
place_of (spot.Left s) = s
place_of (spot.Right s) = 128 + s
place_of (spot.Pred s) = 256 + s
place_of (spot.Write w) = first_write + w
place_of (spot.Store n) = first_store + n
place_of _ = no_place

-- the place of a spot that may not be there
abbrev pub place_at : Option Spot → ℕ
place_at None = no_place
place_at (Some s) = place_of s

-- a store names its number and a branch the exit
abbrev pub first_place : Form → ℕ → Option Spot → ℕ
first_place Store n s = first_store + n
first_place Branch n s = exit_place
first_place _ n s = place_at s

-- a load sees the stores of lower numbers
abbrev pub load_bound : Form → ℕ → ℕ
load_bound Load n = first_store + n
load_bound _ n = 0

-- a read has no slot: none of its operands or its predicate is a place
abbrev pub read_node : ReadSlot → Node
read_node r = record {
  slot = place_count;
  role = Reading;
  sense = Always;
  first = place_of r.first;
  second = place_at r.second;
  below = 0;
}

-- slot j as a node; an empty one names no place
abbrev pub inst_node : ℕ → Option Inst → Node
inst_node j None = record {
  slot = j;
  role = Empty;
  sense = Always;
  first = no_place;
  second = no_place;
  below = 0;
}
inst_node j (Some i) = record {
  slot = j;
  role = role_of i.op;
  sense = i.sense;
  first = first_place (form_of i.op) i.number i.first;
  second = place_at i.second;
  below = load_bound (form_of i.op) i.number;
}

-- the slots from number j on as nodes
abbrev pub inst_nodes : ℕ → List (Option Inst) → List Node
inst_nodes j [] = []
inst_nodes j (i ∷ is) = inst_node j i ∷ inst_nodes (suc j) is

-- the reads, then the slots: node x is read x, or slot x less the number of reads
abbrev pub nodes_of : Block → List Node
nodes_of b = map read_node b.reads.items ++ inst_nodes 0 b.insts.items

-- whether a mask has a store number
abbrev pub in_mask : ℕ → ℕ → Bool
in_mask mask n = nat_lt n 32 && ((mask / 2 ^ n) % 2 == 1)

-- the places that a node names
abbrev pub targets : Node → List ℕ
targets n = n.first ∷ n.second ∷ []

-- whether a place is among some places
abbrev pub names : List ℕ → ℕ → Bool
names [] q = false
names (t ∷ ts) q = (t == q) || names ts q
