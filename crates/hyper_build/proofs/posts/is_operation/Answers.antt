use Rattle.std.proofs.Common.{ap, ◌∙◌, arith}
use Rattle.ir_forms.specs.inside.FlatCode.{Step}
use Rattle.ir_forms.specs.inside.FlatViews.{step_of}
use Rattle.ir_forms.proofs.Views.{step_let, step_frame, step_load, step_save}
use Rattle.hyper_build.specs.inside.Legs.{is_operation}
use Rattle.hyper_build.proofs.FormArms.{no_operation}
use Rattle.hyper_build.proofs.posts.is_operation.Goals as goal

pub returns-in-Let : goal.returns-in-Let
returns-in-Let c =
    let h = ap (λ (st : Step). is_operation st)
    (ap step_of c.in-Let.is ∙ step_let c.in-Let.to c.in-Let.op c.in-Let.a c.in-Let.b) in
    grind (arith, h)

pub returns-in-Frame : goal.returns-in-Frame
returns-in-Frame c =
    let h = ap (λ (st : Step). is_operation st)
    (ap step_of c.in-Frame.is ∙ step_frame c.in-Frame.to c.in-Frame.at) in
    grind (arith, h)

pub returns-in-Load : goal.returns-in-Load
returns-in-Load c =
    let h = ap (λ (st : Step). is_operation st)
    (ap step_of c.in-Load.is ∙ step_load c.in-Load.to c.in-Load.op c.in-Load.address) in
    grind (arith, h)

pub returns-in-Save : goal.returns-in-Save
returns-in-Save c =
    let h = ap (λ (st : Step). is_operation st)
    (ap step_of c.in-Save.is ∙ step_save c.in-Save.op c.in-Save.address c.in-Save.value) in
    grind (arith, h)

pub returns-in_default : goal.returns-in_default
returns-in_default c =
    let h = no_operation c.args.s.now
    c.in_default.not-Let c.in_default.not-Frame c.in_default.not-Load c.in_default.not-Save in
    grind (arith, h)
