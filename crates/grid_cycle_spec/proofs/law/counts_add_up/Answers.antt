use Rattle.grid_cycle_spec.proofs.Counting.{cycles_add_up, closed_adds_up}
use Rattle.grid_cycle_spec.proofs.law.counts_add_up.Goals as goal

pub returns-clause-kept : goal.returns-clause-kept
returns-clause-kept g c = λ blocks budget n x y adds cycles. cycles_add_up blocks budget g.W.Weather.next
    g.W.Weather.follows n x y adds cycles

pub returns-clause-closed : goal.returns-clause-closed
returns-clause-closed g c = λ x adds. closed_adds_up x adds
