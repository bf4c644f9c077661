use Rattle.predication.proofs.Addressed.{converts_meaning}
use Rattle.predication.proofs.laws.converted_blocks_mean_the_same.Goals as goal

pub returns : goal.returns
returns c = converts_meaning
