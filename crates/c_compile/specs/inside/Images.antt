-- The law of compiled images: each does what its text means.
use Rattle.std.specs.Prelude.{ℕ, List}
use Rattle.trips_isa.specs.declared.block.Image.{Image}
use Rattle.grid_place.specs.declared.placed.Placing.{Placing}
use Rattle.c_compile.specs.Images.{IsImageOf, MeansText}

-- so does each image of a text, wherever its blocks are placed and however many turns of a loop they do
abbrev pub ImagesMeanTexts : Type 0
ImagesMeanTexts =
    (text : List ℕ) (p : Placing) (turns : ℕ) (i : Image) → IsImageOf text p turns i → MeansText text p turns i
