-- What the passes give before anything is laid out: machine blocks whose immediates hold labels.
use Rattle.std.specs.Prelude.{All}
use Rattle.trips_isa.specs.declared.block.Image.{Image}
use Rattle.trips_isa.specs.Images.{FitsImage}
use Rattle.block_cases.specs.Good.{GoodBlock}

-- an image whose parts lie in their fields, and whose blocks are all good
pub record IsGoodImage (i : Image) : Type 0 where
  -- so that its bytes can be written and read back
  pub fits : FitsImage i
  -- as the checker judges them
  pub good : All GoodBlock i.blocks
