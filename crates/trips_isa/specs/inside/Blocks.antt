-- Beside what is believed of Blocks.antt: the tables of a block.
use Rattle.std.specs.Prelude.{ℕ, ◌+◌, List, length}
use Rattle.std.specs.Prelude.{[], ◌∷◌, Option, None}
use Rattle.trips_isa.specs.declared.block.Spot.{Spot}
use Rattle.trips_isa.specs.declared.block.Spot.TheVariants as spot
use Rattle.trips_isa.specs.declared.block.Inst.{Inst}
use Rattle.trips_isa.specs.declared.block.Block.{Block}
use Rattle.trips_isa.specs.Rule.{Answer}
use Rattle.trips_isa.specs.Places.{nodes_of}
use Rattle.trips_isa.specs.Tables.{or_else}
use Rattle.trips_isa.specs.inside.Tables.{IsTable}
use Rattle.trips_isa.specs.Blocks.{Responses, computes}

-- g gives each node's token where reads and loads are answered so: of a load, at every address
abbrev pub Solves : Block → Responses → (ℕ → Answer) → Type 0
Solves b responses g = IsTable (nodes_of b) (computes b responses) g

-- what a read or a slot gives, of a spot that names it, where f says what each node gives
abbrev pub given_by : {A : Type 0} → Block → (ℕ → Option A) → Spot → Option A
given_by b f (spot.Read r) = f r
given_by b f (spot.Inst s) = f (length b.reads.items + s)
given_by b f _ = None

-- the first thing that some spots give
abbrev pub first_given : {A : Type 0} → (Spot → Option A) → List Spot → Option A
first_given h [] = None
first_given h (s ∷ ss) = or_else (h s) (first_given h ss)
