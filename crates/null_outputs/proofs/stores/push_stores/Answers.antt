use Rattle.null_outputs.specs.inside.Listed.{all_numbers_by}
use Rattle.null_outputs.proofs.stores.push_stores.Goals as goal

pub returns : goal.returns
unfolding all_numbers_by
returns c = c.push_numbers.ensures
