use Rattle.c_meaning_spec.proofs.Stocks.{output-goes-on}
use Rattle.c_meaning_spec.proofs.laws.output_goes_on.Goals as goal

pub returns : goal.returns
returns c = output-goes-on
