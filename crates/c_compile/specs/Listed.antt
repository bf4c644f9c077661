-- The images of C texts, with where the blocks of each function begin.
use Rattle.std.specs.Prelude.{◌≡◌, ℕ, List}
use Rattle.trips_isa.specs.declared.block.Image.{Image}
use Rattle.grid_place.specs.declared.placed.Placing.{Placing}
use Rattle.hyper_build.specs.inside.FunctionParts.{entries_of}
use Rattle.hyper_build.specs.inside.Laws.{plan_of}
use Rattle.c_compile.specs.Images.{IsImageOf}

-- i is an image of the text, and entries are the numbers of the first blocks of the functions of the text's flat
-- program by the plan that i is made by: the passes behind that plan keep the number of blocks and their order
pub record IsListed (text : List ℕ) (p : Placing) (turns : ℕ) (i : Image) (entries : List ℕ) : Type 0 where
  pub image : IsImageOf text p turns i
  pub begin : entries
      ≡ entries_of (plan_of image.compiled.cuts image.compiled.joins image.compiled.groups) image.flat
