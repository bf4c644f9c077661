use Rattle.flow_guards.proofs.Fitting.{keeps_complete}
use Rattle.flow_guards.proofs.laws.unguarding_keeps_completeness.Goals as goal

pub returns : goal.returns
returns c = keeps_complete
