use Rattle.grid_machine.proofs.RunFacts.{run_adds, run_counts}
use Rattle.grid_machine.proofs.law.runs_count.Goals as goal

pub returns-clause-commits : goal.returns-clause-commits
returns-clause-commits g c = λ blocks budget n x y run. run_counts blocks budget g.W.Weather.next
    g.W.Weather.follows n x y run

pub returns-clause-frames : goal.returns-clause-frames
returns-clause-frames g c = λ blocks budget n x y adds run. run_adds blocks budget g.W.Weather.next
    g.W.Weather.follows n x y adds run
