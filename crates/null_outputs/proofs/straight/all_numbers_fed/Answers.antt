use Rattle.null_outputs.specs.inside.Tested.{all_numbers_fed}
use Rattle.null_outputs.proofs.straight.all_numbers_fed.Goals as goal

pub returns : goal.returns
unfolding all_numbers_fed
returns c = c.numbers_fed.ensures
