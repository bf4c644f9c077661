-- What driving remembers of the block that it works on.
use Rattle.std.specs.Prelude.{◌≡◌, List, Option, Some, None, slice_get}
use Rattle.trips_isa.specs.declared.block.Block.{Block}
use Rattle.frame_state.specs.inside.Shapes.{IsShape}
use Rattle.commit_flush.specs.declared.known.Known.{Known}

-- what is remembered is so of the image's block
abbrev pub IsKnown : List Block → Option Known → Type 0
IsKnown blocks None = Unit {0}
IsKnown blocks (Some k) = (b : Block) → slice_get blocks k.block ≡ Some b → IsShape b k.shape
