use Rattle.flat_lower_premises.proofs.Counted.{items_few, globals_few}
use Rattle.flat_lower_premises.proofs.counts.globals_are_few.Goals as goal

pub returns : goal.returns
returns c = record { items = items_few; globals = globals_few }
