use Rattle.c_meaning_spec.proofs.Stocks.{stays-with-more-steps}
use Rattle.c_meaning_spec.proofs.laws.result_stays_with_more_steps.Goals as goal

pub returns : goal.returns
returns c = stays-with-more-steps
