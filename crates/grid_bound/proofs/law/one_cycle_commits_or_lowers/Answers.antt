use Rattle.grid_bound.proofs.OneCycle.{begun_has_rule, one_cycle}
use Rattle.grid_bound.proofs.law.one_cycle_commits_or_lowers.Goals as goal

pub returns-clause-one : goal.returns-clause-one
returns-clause-one g c = λ blocks budget a b good has on few cycle.
    one_cycle blocks good budget g.W.Weather.next g.W.Weather.follows g.met.W.Weather.bounded a b has on few cycle

pub returns-clause-begins : goal.returns-clause-begins
returns-clause-begins g c = λ blocks budget s entries weather opens.
    begun_has_rule blocks budget s entries weather opens
