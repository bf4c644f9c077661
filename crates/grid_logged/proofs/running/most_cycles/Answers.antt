use Rattle.grid_machine.proofs.Starts.{most_is}
use Rattle.grid_logged.proofs.running.most_cycles.Goals as goal

pub returns-clause-value : goal.returns-clause-value
returns-clause-value c = most_is c.args.budget
