use Rattle.smt_spec.proofs.OwnRuns.{of_four, runs_alone}
use Rattle.smt_spec.proofs.law.programs_run_as_alone.Goals as goal

pub returns : goal.returns
returns W c = λ images budget q n states predictors weather h l good opens cycles.
    runs_alone images budget q (of_four q l) _ _ good states predictors weather opens n h cycles
