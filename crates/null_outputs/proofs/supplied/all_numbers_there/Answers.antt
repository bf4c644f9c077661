use Rattle.null_outputs.specs.inside.Supplied.{all_numbers_there}
use Rattle.null_outputs.proofs.supplied.all_numbers_there.Goals as goal

pub returns : goal.returns
unfolding all_numbers_there
returns c = c.numbers_there.ensures
