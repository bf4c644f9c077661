use Rattle.grid_bound.proofs.CycleParts.{cycle_rule, cycles_rule, cycles_window}
use Rattle.grid_bound.proofs.rule_law.cycles_keep_the_rule.Goals as goal

pub returns-clause-one : goal.returns-clause-one
returns-clause-one g c = λ blocks budget x y good ok bound rule cycle. cycle_rule blocks good budget g.W.Weather.next
    g.W.Weather.follows bound x y ok rule cycle

pub returns-clause-rule : goal.returns-clause-rule
returns-clause-rule g c = λ blocks budget n x y good ok bound rule cycles. cycles_rule blocks good budget
    g.W.Weather.next g.W.Weather.follows bound n x y ok rule cycles

pub returns-clause-window : goal.returns-clause-window
returns-clause-window g c = λ blocks budget n x y good ok bound rule cycles. cycles_window blocks good budget
    g.W.Weather.next g.W.Weather.follows bound n x y ok rule cycles
