use Rattle.flat_lower_premises.proofs.SpelledSizes.{units_small}
use Rattle.flat_lower_premises.proofs.lengths.units_are_small.Goals as goal

pub returns : goal.returns
returns c = units_small
