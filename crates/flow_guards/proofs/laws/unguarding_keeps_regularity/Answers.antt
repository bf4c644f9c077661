use Rattle.flow_guards.proofs.Regular.{keeps_regular}
use Rattle.flow_guards.proofs.laws.unguarding_keeps_regularity.Goals as goal

pub returns : goal.returns
returns c = keeps_regular
