-- Beside what is believed of Predicts.antt: the predictor.
use Rattle.std.specs.Prelude.{ℕ, List}
use Rattle.std.specs.Prelude.{length, All, ◌<◌}
use Rattle.trips_isa.specs.declared.block.Block.{Block}

-- each number is that of a block
abbrev pub AreBlocks : List Block → List ℕ → Type 0
AreBlocks blocks numbers = All (λ n. n < length blocks) numbers
