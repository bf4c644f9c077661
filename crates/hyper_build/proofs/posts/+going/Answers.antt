use Rattle.std.proofs.Common.{◌≡◌, ap, ◌∙◌, arith, drop}
use Rattle.ir_forms.specs.inside.FlatCode.{Step}
use Rattle.ir_forms.specs.inside.FlatViews.{code_of, step_of}
use Rattle.ir_forms.proofs.Views.{step_if, step_continue}
use Rattle.hyper_build.specs.inside.Legs as legs
use Rattle.hyper_build.proofs.FormArms.{no_continue}
use Rattle.hyper_build.proofs.posts.+going.Goals as goal

pub continues_stmt-returns-in-If : goal.continues_stmt-returns-in-If
continues_stmt-returns-in-If t c =
    let h = ap (λ (st : Step). legs.continues_in st)
    (ap step_of c.in-If.is ∙ step_if c.in-If.test c.in-If.yes c.in-If.no) in
    grind (arith, h)

pub continues_stmt-returns-in-Continue : goal.continues_stmt-returns-in-Continue
continues_stmt-returns-in-Continue t c =
    let h = ap (λ (st : Step). legs.continues_in st)
    (ap step_of c.in-Continue.is ∙ step_continue) in
    grind (arith, h)

pub continues_stmt-returns-in_default : goal.continues_stmt-returns-in_default
continues_stmt-returns-in_default t c =
    let h = no_continue c.args.s.now c.in_default.not-If c.in_default.not-Continue in grind (arith, h)

pub continues-returns : goal.continues-returns
continues-returns t c =
    let e : c.loop-at.at ≡ 0 = omega arith in
    c.loop-at.invariant.done ∙ ap (λ n. legs.continues (code_of (drop n c.args.stmts.now))) e
