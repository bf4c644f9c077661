use Rattle.flat_lower_premises.proofs.UnitSizes.{passes_short}
use Rattle.flat_lower_premises.proofs.lengths.passes_are_short.Goals as goal

pub returns : goal.returns
returns c = passes_short
