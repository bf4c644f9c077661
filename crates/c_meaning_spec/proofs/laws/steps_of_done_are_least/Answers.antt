use Rattle.c_meaning_spec.proofs.Stocks.{steps-are-least}
use Rattle.c_meaning_spec.proofs.laws.steps_of_done_are_least.Goals as goal

pub returns : goal.returns
returns c = steps-are-least
