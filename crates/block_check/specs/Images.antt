-- Images whose blocks were all checked, and the first block of one that has a fault.
use Rattle.std.specs.Prelude.{◌≡◌, ℕ, ◌<◌, Some, slice_get}
use Rattle.trips_isa.specs.declared.block.Block.{Block}
use Rattle.trips_isa.specs.declared.block.Image.{Image}
use Rattle.block_check.specs.declared.fault.CheckFault.{CheckFault}
use Rattle.block_check.specs.Faults.{IsGood, IsLowestFault}

-- block `number` has this fault, and each block before it is good
pub record IsFirstBad (image : Image) (number : ℕ) (fault : CheckFault) : Type 0 where
  pub block : Block
  pub is_block : slice_get image.blocks number ≡ Some block
  -- of the faults that this block has it is the lowest
  pub has : IsLowestFault block fault
  -- the blocks before it have none
  pub before : (k : ℕ) (b : Block) → k < number → slice_get image.blocks k ≡ Some b → IsGood b
