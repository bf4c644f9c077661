use Rattle.flow_guards.proofs.Meaning.{keeps_meaning}
use Rattle.flow_guards.proofs.laws.unguarding_keeps_meaning.Goals as goal

pub returns : goal.returns
returns c = keeps_meaning
