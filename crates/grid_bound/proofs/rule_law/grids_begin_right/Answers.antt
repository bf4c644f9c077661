use Rattle.grid_bound.proofs.StatedStart.{begins_right, begins_counted}
use Rattle.grid_bound.proofs.rule_law.grids_begin_right.Goals as goal

pub returns-clause-rule : goal.returns-clause-rule
returns-clause-rule W c = begins_right

pub returns-clause-generations : goal.returns-clause-generations
returns-clause-generations W c = begins_counted
