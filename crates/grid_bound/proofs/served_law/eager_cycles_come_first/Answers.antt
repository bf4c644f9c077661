use Rattle.grid_bound.proofs.EagerFirst.{eager_first}
use Rattle.grid_bound.proofs.served_law.eager_cycles_come_first.Goals as goal

pub returns : goal.returns
returns W c = λ blocks budget g h bound few cycle. eager_first blocks budget _ _ bound g h few cycle
