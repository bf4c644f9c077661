use Rattle.flow_guards.proofs.Regular.{keeps_nodes}
use Rattle.flow_guards.proofs.laws.nodes_stay_where_they_stand.Goals as goal

pub returns : goal.returns
returns c = keeps_nodes
