use Rattle.smt_bound.proofs.Runs as runs
use Rattle.smt_bound.proofs.law.four_within_cost.Goals as goal

pub returns-clause-ends : goal.returns-clause-ends
returns-clause-ends W c = λ images budget n states predictors weather h goods bound opens cycles few over.
    runs.ends images budget _ _ bound goods states predictors weather opens n h cycles few over

pub returns-clause-moment : goal.returns-clause-moment
returns-clause-moment W c = λ images budget n states predictors weather h p ps goods bound opens cycles few on.
    runs.moment images budget _ _ bound goods states predictors weather opens n h cycles few p ps on

pub returns-clause-bounded : goal.returns-clause-bounded
returns-clause-bounded W c = λ images budget n states predictors weather h goods bound opens cycles few on.
    runs.bounded images budget _ _ bound goods states predictors weather opens n h cycles few on
