-- The first pass that refuses a narrowed block, and the first block that is refused.
use Rattle.std.specs.Prelude.{◌≡◌, ◌⊎◌, ℕ, Bool, List, Some, slice_get}
use Rattle.trips_isa.specs.declared.block.Block.{Block}
use Rattle.ir_forms.specs.declared.fault.FlowFault.{FlowFault}
use Rattle.hyper_narrow.specs.inside.NarrowedCode.{Narrowed}
use Rattle.predication.specs.inside.Tails.{labelled}
use Rattle.predication.specs.inside.Converted.{predicated}
use Rattle.predication.specs.inside.Outcomes.{HasRoomFor, counts_of}
use Rattle.predication.specs.inside.Outcomes as convert
use Rattle.null_outputs.specs.inside.Refusals.{IsWithinLimits}
use Rattle.null_outputs.specs.inside.Refusals as complete
use Rattle.fan_out.specs.inside.Refusals as target
use Rattle.c_compile_blocks.specs.inside.Limits.{FitsMachine}
use Rattle.grid_place.specs.declared.placed.Placing.{Placing}
use Rattle.c_compile_blocks.specs.inside.Blocks.{flow_of, AreFirstPassed}

-- completing refuses what predication gives
pub record IsIncomplete (b : Narrowed) (e : FlowFault) : Type 0 where
  -- predication itself has room
  pub room : HasRoomFor (counts_of (labelled b))
  pub refused : complete.IsRefusal (predicated (labelled b)) e

-- the targets refuse what is completed
pub record IsUntargeted (b : Narrowed) (e : FlowFault) : Type 0 where
  pub room : HasRoomFor (counts_of (labelled b))
  -- the completed block has room for its nodes, without the `mov`s that spread results
  pub limits : IsWithinLimits (flow_of b)
  pub refused : target.IsRefusal (flow_of b) e

-- The first pass that refuses a narrowed block, with its refusal; placing refuses none. Memory may be
-- wanting at any time.
pub record IsRefused (b : Narrowed) (e : FlowFault) : Type 0 where
  pub first : convert.IsRefusal (counts_of (labelled b)) e ⊎ IsIncomplete b e ⊎ IsUntargeted b e

-- the first block of a narrowed program that is refused; those before it pass
pub record HasRefused (is_eased : Bool) (p : Placing) (B : List Narrowed) (e : FlowFault) : Type 0 where
  pub number : ℕ
  pub block : Narrowed
  pub there : slice_get B number ≡ Some block
  pub refused : IsRefused block e
  -- what the passes make of the blocks before it
  pub before : List Block
  pub passed : AreFirstPassed is_eased p B number before

-- each block of a narrowed program is within all limits of the machine
abbrev pub FitMachine : List Narrowed → Type 0
FitMachine B = (k : ℕ) (b : Narrowed) → slice_get B k ≡ Some b → FitsMachine b
