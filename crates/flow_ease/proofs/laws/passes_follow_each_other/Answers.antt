use Rattle.flow_ease.proofs.Standing.{eases_on}
use Rattle.flow_ease.proofs.laws.passes_follow_each_other.Goals as goal

pub returns : goal.returns
returns c = eases_on
