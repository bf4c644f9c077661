use Rattle.flow_guards.proofs.Labels.{keeps_labels}
use Rattle.flow_guards.proofs.laws.unguarding_keeps_labels.Goals as goal

pub returns : goal.returns
returns c = keeps_labels
