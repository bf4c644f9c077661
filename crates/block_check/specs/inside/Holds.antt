-- What a checked image holds: its blocks, where each begins, and the bytes.
use Rattle.std.specs.Prelude.{◌≡◌, ℕ, ◌+◌, List, [], ◌∷◌}
use Rattle.trips_isa.specs.declared.block.Block.{Block}
use Rattle.trips_isa.specs.declared.block.Image.{Image}
use Rattle.trips_isa.specs.Images.{chunks}
use Rattle.block_check.specs.declared.refusal.ImageRefusal.{ImageRefusal}
use Rattle.block_check.specs.declared.refusal.ImageRefusal.TheVariants.{Bad, Memory}
use Rattle.block_check.specs.Faults.{IsLowestFault}
use Rattle.block_check.specs.inside.Images.{IsCheckedImage}

-- the image of these blocks and bytes
abbrev pub image_of : List Block → List ℕ → Image
image_of blocks bytes = record { blocks = blocks; bytes = bytes }

-- where each block begins, in chunks, the first of them at `here`
abbrev pub first_chunks : ℕ → List Block → List ℕ
first_chunks here [] = []
first_chunks here (b ∷ bs) = here ∷ first_chunks (here + chunks b) bs

-- the image was checked, and `starts` tells where its blocks begin
pub record IsIndexed (blocks : List Block) (starts bytes : List ℕ) : Type 0 where
  pub checked : IsCheckedImage (image_of blocks bytes)
  -- the chunk of each block, by its number
  pub starts_are : starts ≡ first_chunks 0 blocks

-- why the block of this number ends the making of an image
abbrev pub IsBadBlock : Block → ℕ → ImageRefusal → Type 0
IsBadBlock block place (Bad number fault) = (number ≡ place) × IsLowestFault block fault
IsBadBlock block place Memory = Unit {0}
