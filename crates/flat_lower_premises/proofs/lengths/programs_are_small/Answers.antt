use Rattle.flat_lower_premises.proofs.UnitSizes.{programs_small}
use Rattle.flat_lower_premises.proofs.lengths.programs_are_small.Goals as goal

pub returns : goal.returns
returns c = programs_small
