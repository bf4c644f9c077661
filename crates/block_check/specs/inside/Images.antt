-- Beside what is believed of Images.antt: images whose blocks were all checked, and the first block of one that
-- has a fault.
use Rattle.std.specs.Prelude.{All}
use Rattle.trips_isa.specs.declared.block.Image.{Image}
use Rattle.trips_isa.specs.Images.{FitsImage}
use Rattle.block_check.specs.declared.refusal.ImageRefusal.{ImageRefusal}
use Rattle.block_check.specs.declared.refusal.ImageRefusal.TheVariants.{Bad, Memory}
use Rattle.block_check.specs.inside.IsChecked.{IsChecked}
use Rattle.block_check.specs.Images.{IsFirstBad}

-- why an image is refused: its first bad block with that block's fault, or want of memory, of which
-- nothing is said
abbrev pub IsRefusal : Image → ImageRefusal → Type 0
IsRefusal image (Bad number fault) = IsFirstBad image number fault
IsRefusal image Memory = Unit {0}

-- what is known of a checked image: it fits, and each of its blocks was checked
pub record IsCheckedImage (image : Image) : Type 0 where
  -- each field of the image is in its width
  pub fits : FitsImage image
  -- no block has a fault
  pub each : All IsChecked image.blocks
