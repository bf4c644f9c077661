use Rattle.std.proofs.Common.{ap, ◌∙◌, arith}
use Rattle.ir_forms.specs.inside.FlatCode.{Step}
use Rattle.ir_forms.specs.inside.FlatViews.{step_of}
use Rattle.ir_forms.proofs.Views.{step_break, step_continue, step_return, step_halt}
use Rattle.hyper_build.specs.inside.Tree.{leaves}
use Rattle.hyper_build.proofs.FormArms.{no_leaving}
use Rattle.hyper_build.proofs.exits.leaves.Goals as goal

pub returns-in-Break : goal.returns-in-Break
returns-in-Break c =
    let h = ap (λ (st : Step). leaves st)
    (ap step_of c.in-Break.is ∙ step_break) in
    grind (arith, h)

pub returns-in-Continue : goal.returns-in-Continue
returns-in-Continue c =
    let h = ap (λ (st : Step). leaves st)
    (ap step_of c.in-Continue.is ∙ step_continue) in
    grind (arith, h)

pub returns-in-Return : goal.returns-in-Return
returns-in-Return c =
    let h = ap (λ (st : Step). leaves st)
    (ap step_of c.in-Return.is ∙ step_return _) in
    grind (arith, h)

pub returns-in-Halt : goal.returns-in-Halt
returns-in-Halt c =
    let h = ap (λ (st : Step). leaves st)
    (ap step_of c.in-Halt.is ∙ step_halt _) in
    grind (arith, h)

pub returns-in_default : goal.returns-in_default
returns-in_default c =
    let h = no_leaving c.args.s.now
    c.in_default.not-Break c.in_default.not-Continue c.in_default.not-Return c.in_default.not-Halt in
    grind (arith, h)
