use Rattle.grid_bound.proofs.Generations.{cycles_count}
use Rattle.grid_bound.proofs.rule_law.cycles_count_generations.Goals as goal

pub returns : goal.returns
returns g c = λ blocks budget n x y made cycles. cycles_count blocks budget g.W.Weather.next g.W.Weather.follows n x y
    made cycles
