use Rattle.std.proofs.Common.{ap, ◌∙◌, arith}
use Rattle.ir_forms.specs.inside.FlatCode.{Step, Nop, ◌▹◌}
use Rattle.ir_forms.specs.inside.FlatFits.{is_small_leg}
use Rattle.ir_forms.specs.inside.FlatViews.{step_of}
use Rattle.ir_forms.proofs.Views.{step_let}
use Rattle.hyper_build.proofs.FormArms.{no_leg}
use Rattle.hyper_build.proofs.straight.is_leg.Goals as goal

pub returns-in-Let : goal.returns-in-Let
returns-in-Let c =
    let h = ap (λ (st : Step). is_small_leg (st ▹ Nop))
    (ap step_of c.in-Let.is ∙ step_let c.in-Let.to c.in-Let.op c.in-Let.a c.in-Let.b) in
    grind (arith, h)

pub returns-in_default : goal.returns-in_default
returns-in_default c =
    let h = no_leg c.args.s.now c.in_default.not-Let in grind (arith, h)
