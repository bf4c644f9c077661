use Rattle.smt_bound.proofs.CycleKeepsRule.{begun_rules}
use Rattle.smt_bound.proofs.law.fours_begin_right.Goals as goal

pub returns : goal.returns
returns W c =
    λ images budget states predictors weather opens. begun_rules images budget states predictors weather opens
