use Rattle.std.proofs.Common.{[]}
use Rattle.block_predict.specs.Predicts.{holding}
use Rattle.grid_bound.proofs.Costs as costs
use Rattle.grid_bound.proofs.law.cycles_cost_at_most.Goals as goal

pub returns-clause-moment : goal.returns-clause-moment
returns-clause-moment g c = λ blocks budget n s entries weather h good opens a on few.
    costs.moment blocks good budget g.W.Weather.next g.W.Weather.follows g.met.W.Weather.bounded s
    (holding entries 0 []) weather opens n h a on few

pub returns-clause-commit : goal.returns-clause-commit
returns-clause-commit g c = λ blocks budget n s entries weather m h good opens a on few cycle e.
    costs.commit blocks good budget g.W.Weather.next g.W.Weather.follows g.met.W.Weather.bounded s
    (holding entries 0 []) weather opens n m a on few h cycle e

pub returns-clause-last : goal.returns-clause-last
returns-clause-last g c = λ blocks budget n s entries weather m h good opens a on few cycle.
    costs.any_cycle blocks good budget g.W.Weather.next g.W.Weather.follows g.met.W.Weather.bounded s
    (holding entries 0 []) weather opens n m a on few h cycle

pub returns-clause-ends : goal.returns-clause-ends
returns-clause-ends g c = λ blocks budget n s entries weather h good opens a on few.
    costs.spends blocks good budget g.W.Weather.next g.W.Weather.follows g.met.W.Weather.bounded s
    (holding entries 0 []) weather opens n h a on few
