use Rattle.flat_lower_premises.proofs.CodeWeights.{few_blocks}
use Rattle.flat_lower_premises.proofs.law.blocks_are_few.Goals as goal

pub returns : goal.returns
returns c = few_blocks
