use Rattle.std.proofs.Common.{ap, ◌∙◌, arith}
use Rattle.ir_forms.specs.inside.FlatFits.{steps_in}
use Rattle.ir_forms.specs.inside.FlatViews.{step_of}
use Rattle.ir_forms.proofs.Views.{step_let, step_frame, step_load, step_save, step_call, step_put}
use Rattle.ir_forms.proofs.Views.{step_get, step_if, step_loop, step_break, step_continue}
use Rattle.ir_forms.proofs.Views.{step_return, step_halt}
use Rattle.hyper_plan.proofs.walk.+walk.Goals as goal

pub walk_stmt-returns-in_ok-single-in-Let-clause-size : goal.walk_stmt-returns-in_ok-single-in-Let-clause-size
walk_stmt-returns-in_ok-single-in-Let-clause-size t c =
    let h = ap steps_in (ap step_of c.in-Let.is ∙ step_let c.in-Let.to c.in-Let.op c.in-Let.a c.in-Let.b) in
    grind (arith, h)

pub walk_stmt-returns-in_ok-single-in-Frame-clause-size : goal.walk_stmt-returns-in_ok-single-in-Frame-clause-size
walk_stmt-returns-in_ok-single-in-Frame-clause-size t c =
    let h = ap steps_in (ap step_of c.in-Frame.is ∙ step_frame c.in-Frame.to c.in-Frame.at) in
    grind (arith, h)

pub walk_stmt-returns-in_ok-single-in-Load-clause-size : goal.walk_stmt-returns-in_ok-single-in-Load-clause-size
walk_stmt-returns-in_ok-single-in-Load-clause-size t c =
    let h = ap steps_in (ap step_of c.in-Load.is ∙ step_load c.in-Load.to c.in-Load.op c.in-Load.address) in
    grind (arith, h)

pub walk_stmt-returns-in_ok-single-in-Save-clause-size : goal.walk_stmt-returns-in_ok-single-in-Save-clause-size
walk_stmt-returns-in_ok-single-in-Save-clause-size t c =
    let h = ap steps_in (ap step_of c.in-Save.is ∙ step_save c.in-Save.op c.in-Save.address c.in-Save.value) in
    grind (arith, h)

pub walk_stmt-returns-in_ok-call-in-Call-clause-size : goal.walk_stmt-returns-in_ok-call-in-Call-clause-size
walk_stmt-returns-in_ok-call-in-Call-clause-size t c =
    let h = ap steps_in (ap step_of c.in-Call.is ∙ step_call c.in-Call.function c.in-Call.args c.in-Call.to) in
    grind (arith, h)

pub walk_stmt-returns-in_ok-ending-in-Put-clause-size : goal.walk_stmt-returns-in_ok-ending-in-Put-clause-size
walk_stmt-returns-in_ok-ending-in-Put-clause-size t c =
    let h = ap steps_in (ap step_of c.in-Put.is ∙ step_put _) in
    grind (arith, h)

pub walk_stmt-returns-in_ok-get-in-Get-clause-size : goal.walk_stmt-returns-in_ok-get-in-Get-clause-size
walk_stmt-returns-in_ok-get-in-Get-clause-size t c =
    let h = ap steps_in (ap step_of c.in-Get.is ∙ step_get c.in-Get.to) in
    grind (arith, h)

pub walk_stmt-returns-in_ok-walk_stmts-in-If-2-clause-size
    : goal.walk_stmt-returns-in_ok-walk_stmts-in-If-2-clause-size
walk_stmt-returns-in_ok-walk_stmts-in-If-2-clause-size t c =
    let h = ap steps_in (ap step_of c.in-If.is ∙ step_if c.in-If.test c.in-If.yes c.in-If.no) in
    grind (arith, h)

pub walk_stmt-returns-in_ok-walk_stmts-in-Loop-2-clause-size
    : goal.walk_stmt-returns-in_ok-walk_stmts-in-Loop-2-clause-size
walk_stmt-returns-in_ok-walk_stmts-in-Loop-2-clause-size t c =
    let h = ap steps_in (ap step_of c.in-Loop.is ∙ step_loop c.in-Loop.body c.in-Loop.post) in
    grind (arith, h)

pub walk_stmt-returns-in_ok-head-in-Break-clause-size : goal.walk_stmt-returns-in_ok-head-in-Break-clause-size
walk_stmt-returns-in_ok-head-in-Break-clause-size t c =
    let h = ap steps_in (ap step_of c.in-Break.is ∙ step_break) in
    grind (arith, h)

pub walk_stmt-returns-in_ok-head-in-Continue-clause-size : goal.walk_stmt-returns-in_ok-head-in-Continue-clause-size
walk_stmt-returns-in_ok-head-in-Continue-clause-size t c =
    let h = ap steps_in (ap step_of c.in-Continue.is ∙ step_continue) in
    grind (arith, h)

pub walk_stmt-returns-in_ok-ending-in-Return-clause-size : goal.walk_stmt-returns-in_ok-ending-in-Return-clause-size
walk_stmt-returns-in_ok-ending-in-Return-clause-size t c =
    let h = ap steps_in (ap step_of c.in-Return.is ∙ step_return _) in
    grind (arith, h)

pub walk_stmt-returns-in_ok-ending-in-Halt-clause-size : goal.walk_stmt-returns-in_ok-ending-in-Halt-clause-size
walk_stmt-returns-in_ok-ending-in-Halt-clause-size t c =
    let h = ap steps_in (ap step_of c.in-Halt.is ∙ step_halt _) in
    grind (arith, h)
