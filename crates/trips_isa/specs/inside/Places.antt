-- Beside what is believed of Places.antt: places of a block as numbers, and its reads and slots as nodes that
-- name places (docs/MACHINE.md, "Places").
use Rattle.std.specs.Prelude.{ℕ, suc, Bool, true, false}
use Rattle.std.specs.Prelude.{List, [], ◌∷◌, ◌++◌, Option}
use Rattle.trips_isa.specs.declared.block.Spot.{Spot}
use Rattle.trips_isa.specs.declared.block.Spot.TheVariants as spot
use Rattle.trips_isa.specs.declared.block.Inst.{Inst}
use Rattle.trips_isa.specs.declared.block.ReadSlot.{ReadSlot}
use Rattle.trips_isa.specs.declared.block.Block.{Block}
use Rattle.trips_isa.specs.Places.{place_of, read_node, inst_node, targets, names}

-- the reads, then the instructions in order of slot, that name a spot
abbrev pub if_named : Bool → Spot → List Spot → List Spot
if_named true s rest = s ∷ rest
if_named false s rest = rest

-- the reads from number i on that name place q
abbrev pub reads_naming : ℕ → List ReadSlot → ℕ → List Spot
reads_naming i [] q = []
reads_naming i (r ∷ rs) q = if_named (names (targets (read_node r)) q) (spot.Read i)
    (reads_naming (suc i) rs q)

-- the slots from number j on that name place q
abbrev pub slots_naming : ℕ → List (Option Inst) → ℕ → List Spot
slots_naming j [] q = []
slots_naming j (i ∷ is) q = if_named (names (targets (inst_node j i)) q) (spot.Inst j)
    (slots_naming (suc j) is q)

-- every spot but a read and a slot themselves is a place
abbrev pub IsPlace : Spot → Type 0
IsPlace (spot.Read r) = ⊥
IsPlace (spot.Inst s) = ⊥
IsPlace s = Unit {0}

-- what names a place
abbrev pub naming : Block → ℕ → List Spot
naming b q = reads_naming 0 b.reads.items q ++ slots_naming 0 b.insts.items q

-- the producers of a spot; a read and a slot themselves are named by nothing
abbrev pub producers : Block → Spot → List Spot
producers b (spot.Read r) = []
producers b (spot.Inst s) = []
producers b s = naming b (place_of s)
