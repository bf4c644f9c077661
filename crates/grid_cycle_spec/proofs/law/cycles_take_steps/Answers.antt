use Rattle.grid_cycle_spec.proofs.Events.{cycles_steps}
use Rattle.grid_cycle_spec.proofs.Agreeing.{takes_steps}
use Rattle.grid_cycle_spec.proofs.law.cycles_take_steps.Goals as goal

pub returns : goal.returns
returns g c = λ blocks budget n x y good ok went cycles. takes_steps blocks good budget x.window y.window ok went
    (cycles_steps blocks budget g.W.Weather.next g.W.Weather.follows n x y cycles)
