use Rattle.grid_machine.proofs.RunFacts.{run_is_cycles}
use Rattle.grid_machine.proofs.law.runs_are_cycles.Goals as goal

pub returns : goal.returns
returns g c = λ blocks budget n x y run. run_is_cycles blocks budget g.W.Weather.next g.W.Weather.follows n x y run
