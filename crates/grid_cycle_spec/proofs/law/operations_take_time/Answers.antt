use Rattle.grid_cycle_spec.proofs.Routes.{takes_time}
use Rattle.grid_cycle_spec.proofs.law.operations_take_time.Goals as goal

pub returns : goal.returns
returns c = takes_time
