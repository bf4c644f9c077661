use Rattle.grid_bound.proofs.Programs.{trace_costs}
use Rattle.grid_bound.proofs.lane_law.traces_are_priced.Goals as goal

pub returns : goal.returns
returns c = trace_costs
