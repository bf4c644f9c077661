-- An image that means a text by the contract of the compiler does what the text means.
use Rattle.std.proofs.Common.{ℕ, List, All}
use Rattle.trips_isa.specs.declared.block.Block.{Block}
use Rattle.trips_isa.specs.declared.block.Image.{Image}
use Rattle.grid_place.specs.declared.placed.Placing.{Placing}
use Rattle.block_check.specs.Faults.{IsGood}
use Rattle.block_check.proofs.Lowest.{found_good}
use Rattle.c_compile.specs.Images.{MeansText}
use Rattle.c_compile.specs.Meant.{DoesText}

-- it is the same without the placing, and without what its blocks are
pub does_text : (text : List ℕ) (p : Placing) (turns : ℕ) (i : Image) → MeansText text p turns i
    → DoesText text turns i
does_text text p turns i m = record {
  program = m.program;
  accepted = m.accepted;
  tokens = m.tokens;
  lexed = m.lexed;
  finished = m.finished;
  deep = m.deep;
  unfinished = m.unfinished;
  ends = m.ends;
  endless = m.endless;
}

-- and each of its blocks is good
pub good_blocks : (text : List ℕ) (p : Placing) (turns : ℕ) (i : Image) → MeansText text p turns i
    → All IsGood i.blocks
good_blocks text p turns i m = λ (k : ℕ) (d : Block) lt.
    found_good _ (m.bounds.good.fits.each k d lt) (m.bounds.good.good k d lt)
