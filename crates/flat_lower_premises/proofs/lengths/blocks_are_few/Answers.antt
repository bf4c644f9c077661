use Rattle.flat_lower_premises.proofs.UnitSizes.{blocks_few}
use Rattle.flat_lower_premises.proofs.lengths.blocks_are_few.Goals as goal

pub returns : goal.returns
returns c = blocks_few
