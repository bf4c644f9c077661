-- The machine in code, seen as the machine of `smt_spec`: each program's own parts among what all share.
use Rattle.std.specs.Prelude.{ℕ, List, [], Option, Some, None, slice_get, slice_index_or}
use Rattle.trips_isa.specs.declared.block.Block.{Block}
use Rattle.trips_isa.specs.Machine.{start}
use Rattle.commit_flush.specs.Seen.{Seen}
use Rattle.grid_cycle_spec.specs.Grid.{Grid}
use Rattle.grid_cycle_spec.specs.Cycles.{begun_at}
use Rattle.grid_parts.specs.Seen.{seen}
use Rattle.grid_parts.specs.declared.grid.Grid.{Grid as Parts}
use Rattle.smt_spec.specs.Programs.{Own, Four, own_of}
use Rattle.smt_spec.specs.Parts.{Images}
use Rattle.smt_mode.specs.declared.machine.Machine.{Machine}

-- a program in code: its window, and what is under way beside it
abbrev pub Program : Type 0
Program = Parts Seen (Unit {0})

-- a program as a grid of its own
abbrev pub seen_of : Program → Grid (Unit {0})
seen_of x = seen x.window.window x.state

-- the blocks of its image
abbrev pub blocks_of : Program → List Block
blocks_of x = x.window.image.blocks

-- what there is of a number that no program has
abbrev pub nobody : Own
nobody = own_of (begun_at (start [] []) [] (tt {0}))

-- what a program has of its own
abbrev pub own_in : Option Program → Own
own_in None = nobody
own_in (Some x) = own_of (seen_of x)

-- the blocks of a program's image
abbrev pub blocks_in : Option Program → List Block
blocks_in None = []
blocks_in (Some x) = blocks_of x

-- some programs among what they share
abbrev pub four_by : {W : Type 0} → List Program → List ℕ → W → ℕ → Four W
four_by programs units weather cycles = record {
  own = λ p. own_in (slice_get programs p);
  units = λ t. slice_index_or units t 0;
  weather = weather;
  cycles = cycles;
}

-- the blocks of the image of each of some programs
abbrev pub images_by : List Program → Images
images_by programs p = blocks_in (slice_get programs p)

-- the machine
abbrev pub four_of : {W : Type 0} → Machine W → Four W
four_of m = four_by m.programs.items m.units m.weather m.cycles

-- the blocks of each program's image
abbrev pub images_of : {W : Type 0} → Machine W → Images
images_of m = images_by m.programs.items
