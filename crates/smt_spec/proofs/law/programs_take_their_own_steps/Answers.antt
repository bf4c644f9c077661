use Rattle.std.proofs.Common.{◌∙◌}
use Rattle.smt_spec.proofs.OwnEvents.{alone_steps}
use Rattle.smt_spec.proofs.OverStays.{over_stays}
use Rattle.smt_spec.proofs.OwnRuns.{of_four}
use Rattle.smt_spec.proofs.law.programs_take_their_own_steps.Goals as goal

pub returns-clause-steps : goal.returns-clause-steps
returns-clause-steps W c = λ images budget q g h cycle good ok went.
    alone_steps images budget q _ _ g h cycle good ok went

pub returns-clause-over : goal.returns-clause-over
returns-clause-over W c = λ images budget q g h l cycle e none.
    let z = over_stays images budget q (of_four q l) _ _ g h cycle e none in (z.0, z.1 ∙ none)
