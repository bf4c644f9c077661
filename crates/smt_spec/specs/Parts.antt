-- The parts of a cycle of four programs: each station serves the first program that has something for it, as it would
-- serve that program alone.
use Rattle.std.specs.Prelude.{ℕ, zero, suc, ◌==◌, ◌&&◌, Bool, cond, nat_lt, List, length, is_some}
use Rattle.trips_isa.specs.declared.block.Block.{Block}
use Rattle.commit_flush_spec.specs.Frames.{numbers}
use Rattle.grid_cycle_spec.specs.Stations.{banks, data_tiles, tiles}
use Rattle.grid_cycle_spec.specs.Grid.{Grid, numbers_of}
use Rattle.grid_cycle_spec.specs.Choosing.{eldest, each, reads, slots}
use Rattle.grid_cycle_spec.specs.Ends.{ends}
use Rattle.grid_cycle_spec.specs.Fetches.{fetch_ends, begins}
use Rattle.grid_cycle_spec.specs.Banks.{answers_read, bank_turn}
use Rattle.grid_cycle_spec.specs.DataTiles.{answers_request, data_turn}
use Rattle.grid_cycle_spec.specs.Units.{in_unit, ready, result_chosen, issues}
use Rattle.grid_cycle_spec.specs.inside.Arrivals.{arrivals}
use Rattle.smt_spec.specs.Programs.{Four, is_idle}
use Rattle.smt_spec.specs.Turns.{first_does, all_do, all_four}

-- the blocks of each program's image
abbrev pub Images : Type 0
Images = ℕ → List Block

-- (1) of each program
abbrev pub ends_of : {W : Type 0} → Images → ℕ → List ℕ → Four W → Four W
ends_of images budget ps g = all_do (λ p. ends (images p) budget) ps g

-- (2) --------------------------------------------------------------------------------------------

-- what is being fetched goes on, for whichever program
abbrev pub fetches_go_on : {W : Type 0} → Images → ℕ → Four W → Four W
fetches_go_on images budget g = all_do (λ p h. fetch_ends (images p) budget h.fetching h) all_four g

-- whether a fetch may begin: fewer than two frames are in flight, and an idle fetch unit would begin one
abbrev pub may_begin : {W : Type 0} → Images → ℕ → Grid W → Bool
may_begin images p h = nat_lt (length h.window.frames) 2 && is_some (begins (images p) h).fetching

-- an idle fetch unit begins a fetch
abbrev pub fetch_begins : {W : Type 0} → Images → List ℕ → Four W → Four W
fetch_begins images ps g = cond (is_idle g) (first_does (may_begin images) (λ p. begins (images p)) ps g) g

-- part (2)
abbrev pub fetches_of : {W : Type 0} → Images → ℕ → List ℕ → Four W → Four W
fetches_of images budget ps g = fetch_begins images ps (fetches_go_on images budget g)

-- (3) --------------------------------------------------------------------------------------------

-- whether a bank may answer a read of a program
abbrev pub has_read : {W : Type 0} → Images → ℕ → ℕ → ℕ → Grid W → Bool
has_read images budget bank p h = is_some (eldest (answers_read (images p) budget h bank) reads h.window.frames)

-- a bank answers its first answerable read, by program, then age
abbrev pub bank_turn_of : {W : Type 0} → Images → ℕ → List ℕ → ℕ → Four W → Four W
bank_turn_of images budget ps bank g =
    first_does (has_read images budget bank) (λ p. bank_turn (images p) budget bank) ps g

-- part (3)
abbrev pub reads_of : {W : Type 0} → Images → ℕ → List ℕ → Four W → Four W
reads_of images budget ps g = each (bank_turn_of images budget ps) banks g

-- (4) --------------------------------------------------------------------------------------------

-- whether a data tile may answer a request of a program
abbrev pub has_request : {W : Type 0} → ℕ → ℕ → Grid W → Bool
has_request tile p h = is_some (eldest (answers_request h tile) numbers h.window.frames)

-- a data tile answers its first answerable request, by program, then age
abbrev pub data_turn_of : {W : Type 0} → Images → ℕ → List ℕ → ℕ → Four W → Four W
data_turn_of images budget ps tile g =
    first_does (has_request tile) (λ p. data_turn (images p) budget tile) ps g

-- part (4)
abbrev pub answers_of : {W : Type 0} → Images → ℕ → List ℕ → Four W → Four W
answers_of images budget ps g = each (data_turn_of images budget ps) data_tiles g

-- (5) --------------------------------------------------------------------------------------------

-- a unit is busy for so many cycles
abbrev pub busy_for : {W : Type 0} → ℕ → ℕ → Four W → Four W
busy_for tile n g = record g { units = λ t. cond (t == tile) n (g.units t) }

-- the result of a program in the unit of a tile enters the mesh
abbrev pub gives : {W : Type 0} → ℕ → ℕ → Grid W → Grid W
gives tile p h = result_chosen (eldest (in_unit h tile) slots h.window.frames) h

-- a unit is busy for one cycle less, and gives its result, of whichever program, where its time is over
abbrev pub unit_on_of : {W : Type 0} → List ℕ → ℕ → ℕ → Four W → Four W
unit_on_of ps tile zero g = g
unit_on_of ps tile (suc zero) g = all_do (gives tile) ps (busy_for tile 0 g)
unit_on_of ps tile (suc (suc left)) g = busy_for tile (suc left) g

-- whether a tile has a ready entry of a program
abbrev pub has_ready : {W : Type 0} → Images → ℕ → ℕ → ℕ → Grid W → Bool
has_ready images budget tile p h = is_some (eldest (ready (images p) budget h tile) slots h.window.frames)

-- a free unit issues the first ready entry of its tile, by program, age and slot
abbrev pub issues_of : {W : Type 0} → Images → ℕ → List ℕ → ℕ → Four W → Four W
issues_of images budget ps tile g = cond (g.units tile == 0)
    (first_does (has_ready images budget tile) (λ p. issues (images p) budget tile) ps g) g

-- a tile gives its finished result to the mesh, then issues
abbrev pub unit_turn_of : {W : Type 0} → Images → ℕ → List ℕ → ℕ → Four W → Four W
unit_turn_of images budget ps tile g = issues_of images budget ps tile (unit_on_of ps tile (g.units tile) g)

-- part (5)
abbrev pub works_of : {W : Type 0} → Images → ℕ → List ℕ → Four W → Four W
works_of images budget ps g = each (unit_turn_of images budget ps) tiles g

-- (6) --------------------------------------------------------------------------------------------

-- what has arrived is delivered, by program, age and place
abbrev pub arrivals_of : {W : Type 0} → Images → ℕ → List ℕ → Four W → Four W
arrivals_of images budget ps g = all_do (λ p h. arrivals (images p) budget (numbers_of h.window.frames) h) ps g
