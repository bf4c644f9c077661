use Rattle.std.proofs.Common.{ap, ◌∙◌, arith}
use Rattle.ir_forms.specs.inside.FlatCode.{Step}
use Rattle.ir_forms.specs.inside.FlatViews.{step_of}
use Rattle.ir_forms.proofs.Views.{step_break, step_continue}
use Rattle.hyper_build.specs.inside.BackwardCode as code
use Rattle.hyper_build.proofs.FormArms.{no_exit}
use Rattle.hyper_build.proofs.exits.exit_in.Goals as goal

pub returns-in-Break : goal.returns-in-Break
returns-in-Break c =
    let h = ap (λ (st : Step). code.exit_in c.args.broke c.args.again st)
    (ap step_of c.in-Break.is ∙ step_break) in
    grind (arith, h)

pub returns-in-Continue : goal.returns-in-Continue
returns-in-Continue c =
    let h = ap (λ (st : Step). code.exit_in c.args.broke c.args.again st)
    (ap step_of c.in-Continue.is ∙ step_continue) in
    grind (arith, h)

pub returns-in_default : goal.returns-in_default
returns-in_default c =
    let h = no_exit c.args.s.now c.args.broke c.args.again
    c.in_default.not-Break c.in_default.not-Continue in
    grind (arith, h)
