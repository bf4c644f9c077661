use Rattle.std.proofs.Common.{◌≡◌, ap, ◌∙◌, arith, drop}
use Rattle.ir_forms.specs.inside.FlatCode.{Step}
use Rattle.ir_forms.specs.inside.FlatViews.{code_of, step_of}
use Rattle.ir_forms.proofs.Views.{step_let, step_frame, step_load, step_save, step_if}
use Rattle.hyper_build.specs.inside.BackwardItems as code
use Rattle.hyper_build.proofs.FormArms.{no_item}
use Rattle.hyper_build.proofs.straight.+straight.Goals as goal

pub is_straight_stmt-returns-in-Let : goal.is_straight_stmt-returns-in-Let
is_straight_stmt-returns-in-Let t c =
    let h = ap (λ (st : Step). code.is_straight_in st)
    (ap step_of c.in-Let.is ∙ step_let c.in-Let.to c.in-Let.op c.in-Let.a c.in-Let.b) in
    grind (arith, h)

pub is_straight_stmt-returns-in-Frame : goal.is_straight_stmt-returns-in-Frame
is_straight_stmt-returns-in-Frame t c =
    let h = ap (λ (st : Step). code.is_straight_in st)
    (ap step_of c.in-Frame.is ∙ step_frame c.in-Frame.to c.in-Frame.at) in
    grind (arith, h)

pub is_straight_stmt-returns-in-Load : goal.is_straight_stmt-returns-in-Load
is_straight_stmt-returns-in-Load t c =
    let h = ap (λ (st : Step). code.is_straight_in st)
    (ap step_of c.in-Load.is ∙ step_load c.in-Load.to c.in-Load.op c.in-Load.address) in
    grind (arith, h)

pub is_straight_stmt-returns-in-Save : goal.is_straight_stmt-returns-in-Save
is_straight_stmt-returns-in-Save t c =
    let h = ap (λ (st : Step). code.is_straight_in st)
    (ap step_of c.in-Save.is ∙ step_save c.in-Save.op c.in-Save.address c.in-Save.value) in
    grind (arith, h)

pub is_straight_stmt-returns-in-If : goal.is_straight_stmt-returns-in-If
is_straight_stmt-returns-in-If t c =
    let h = ap (λ (st : Step). code.is_straight_in st)
    (ap step_of c.in-If.is ∙ step_if c.in-If.test c.in-If.yes c.in-If.no) in
    grind (arith, h)

pub is_straight_stmt-returns-in_default : goal.is_straight_stmt-returns-in_default
is_straight_stmt-returns-in_default t c =
    let h = no_item c.args.s.now
    c.in_default.not-Let c.in_default.not-Frame c.in_default.not-Load c.in_default.not-Save c.in_default.not-If in
    grind (arith, h)

pub is_straight-returns : goal.is_straight-returns
is_straight-returns t c =
    let e : c.loop-at.at ≡ 0 = omega arith in
    c.loop-at.invariant.done ∙ ap (λ n. code.is_straight (code_of (drop n c.args.stmts.now))) e
