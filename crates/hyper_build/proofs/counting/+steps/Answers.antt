use Rattle.std.proofs.Common.{◌≡◌, ap, ◌∙◌, arith, drop}
use Rattle.ir_forms.specs.inside.FlatCode.{Step}
use Rattle.ir_forms.specs.inside.FlatFits as flat
use Rattle.ir_forms.specs.inside.FlatViews.{code_of, step_of}
use Rattle.ir_forms.proofs.Views.{step_if, step_loop}
use Rattle.hyper_build.proofs.FormArms.{no_parts}
use Rattle.hyper_build.proofs.counting.+steps.Goals as goal

pub steps_in-returns-in_ok-all-in-If : goal.steps_in-returns-in_ok-all-in-If
steps_in-returns-in_ok-all-in-If t c =
    let h = ap (λ (st : Step). flat.steps_in st)
    (ap step_of c.in-If.is ∙ step_if c.in-If.test c.in-If.yes c.in-If.no) in
    grind (arith, h)

pub steps_in-returns-in_ok-all-in-Loop : goal.steps_in-returns-in_ok-all-in-Loop
steps_in-returns-in_ok-all-in-Loop t c =
    let h = ap (λ (st : Step). flat.steps_in st)
    (ap step_of c.in-Loop.is ∙ step_loop c.in-Loop.body c.in-Loop.post) in
    grind (arith, h)

pub steps_in-returns-in_default : goal.steps_in-returns-in_default
steps_in-returns-in_default t c =
    let h = no_parts c.args.s.now c.in_default.not-If c.in_default.not-Loop in grind (arith, h)

pub steps_of-returns : goal.steps_of-returns
steps_of-returns t c =
    let e : c.loop-at.at ≡ 0 = omega arith in
    c.loop-at.invariant.done ∙ ap (λ n. flat.steps_of (code_of (drop n c.args.stmts.now))) e
