-- What the parts of a block's way through the passes come to.
use Rattle.std.specs.Prelude.{◌≡◌}
use Rattle.trips_isa.specs.declared.block.Block.{Block}
use Rattle.ir_forms.specs.declared.flow.FlowBlock.{FlowBlock}
use Rattle.hyper_narrow.specs.inside.NarrowedCode.{Narrowed}
use Rattle.predication.specs.inside.Tails.{labelled}
use Rattle.predication.specs.inside.Outcomes.{HasRoomFor, counts_of}
use Rattle.null_outputs.specs.inside.Refusals.{IsWithinLimits}
use Rattle.fan_out.specs.inside.Targeted.{HasRoom, IsTargeted}
use Rattle.grid_place.specs.declared.placed.Placing.{Placing}
use Rattle.grid_place.specs.inside.Placings.{IsPlaced}
use Rattle.c_compile_blocks.specs.inside.Blocks.{flow_of}

-- f is the flow block of a narrowed block, which predication and completing have taken
pub record IsFlow (b : Narrowed) (f : FlowBlock) : Type 0 where
  pub is : f ≡ flow_of b
  -- predication has room
  pub room : HasRoomFor (counts_of (labelled b))
  -- so has the completed block for its nodes
  pub limits : IsWithinLimits f

-- u is the machine block of a flow block, in the slots that a placing says
pub record IsPlacedFlow (p : Placing) (f : FlowBlock) (u : Block) : Type 0 where
  pub room : HasRoom f
  pub target : Block
  pub targeted : IsTargeted f target
  pub placed : IsPlaced p target u
