use Rattle.c_meaning_spec.proofs.Stocks.{exits-as-main-returns}
use Rattle.c_meaning_spec.proofs.laws.exits_as_main_returns.Goals as goal

pub returns : goal.returns
returns c = exits-as-main-returns
