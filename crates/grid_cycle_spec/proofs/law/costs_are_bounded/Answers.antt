use Rattle.grid_cycle_spec.proofs.Routes.{cost_least, cost_most}
use Rattle.grid_cycle_spec.proofs.law.costs_are_bounded.Goals as goal

pub returns-clause-least : goal.returns-clause-least
returns-clause-least c = cost_least

pub returns-clause-most : goal.returns-clause-most
returns-clause-most c = cost_most
