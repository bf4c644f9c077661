use Rattle.grid_cycle_spec.proofs.Events.{eager_steps}
use Rattle.grid_cycle_spec.proofs.law.cycles_are_events.Goals as goal

pub returns : goal.returns
returns g c = λ blocks budget x y cycle. eager_steps blocks budget g.W.Weather.next g.W.Weather.follows x y cycle
