use Rattle.grid_cycle_spec.proofs.Routes.{cost_more}
use Rattle.grid_cycle_spec.proofs.law.costs_add_up.Goals as goal

pub returns : goal.returns
returns c = cost_more
