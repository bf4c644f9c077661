use Rattle.grid_machine.proofs.RunFacts.{run_comes}
use Rattle.grid_machine.proofs.law.runs_come_to_the_machine.Goals as goal

pub returns : goal.returns
returns g c = λ blocks budget n x y e good ok went adds run tells. run_comes blocks budget g.W.Weather.next
    g.W.Weather.follows good n x y e ok went adds run tells
