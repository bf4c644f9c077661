use Rattle.std.proofs.Common.{ap, ◌∙◌, arith}
use Rattle.ir_forms.specs.inside.FlatCode.{Step}
use Rattle.ir_forms.specs.inside.FlatViews.{step_of}
use Rattle.ir_forms.proofs.Views.{step_let, step_frame, step_load, step_save, step_call, step_put}
use Rattle.ir_forms.proofs.Views.{step_get, step_if, step_loop, step_break, step_continue}
use Rattle.ir_forms.proofs.Views.{step_return, step_halt}
use Rattle.reg_assign.specs.inside.Pass as pass
use Rattle.reg_assign.proofs.reading.+reading.Goals as goal

pub read_stmt-returns-in-Let : goal.read_stmt-returns-in-Let
read_stmt-returns-in-Let t c =
    let h = ap (λ (st : Step). pass.reading_in st c.args.reading.now)
    (ap step_of c.in-Let.is ∙ step_let c.in-Let.to c.in-Let.op c.in-Let.a c.in-Let.b) in
    grind (arith, h)

pub read_stmt-returns-in-Frame : goal.read_stmt-returns-in-Frame
read_stmt-returns-in-Frame t c =
    let h = ap (λ (st : Step). pass.reading_in st c.args.reading.now)
    (ap step_of c.in-Frame.is ∙ step_frame c.in-Frame.to c.in-Frame.at) in
    grind (arith, h)

pub read_stmt-returns-in-Load : goal.read_stmt-returns-in-Load
read_stmt-returns-in-Load t c =
    let h = ap (λ (st : Step). pass.reading_in st c.args.reading.now)
    (ap step_of c.in-Load.is ∙ step_load c.in-Load.to c.in-Load.op c.in-Load.address) in
    grind (arith, h)

pub read_stmt-returns-in-Save : goal.read_stmt-returns-in-Save
read_stmt-returns-in-Save t c =
    let h = ap (λ (st : Step). pass.reading_in st c.args.reading.now)
    (ap step_of c.in-Save.is ∙ step_save c.in-Save.op c.in-Save.address c.in-Save.value) in
    grind (arith, h)

pub read_stmt-returns-in-Call : goal.read_stmt-returns-in-Call
read_stmt-returns-in-Call t c =
    let h = ap (λ (st : Step). pass.reading_in st c.args.reading.now)
    (ap step_of c.in-Call.is ∙ step_call c.in-Call.function c.in-Call.args c.in-Call.to) in
    grind (arith, h)

pub read_stmt-returns-in-Put : goal.read_stmt-returns-in-Put
read_stmt-returns-in-Put t c =
    let h = ap (λ (st : Step). pass.reading_in st c.args.reading.now)
    (ap step_of c.in-Put.is ∙ step_put c.in-Put.value) in
    grind (arith, h)

pub read_stmt-returns-in-Get : goal.read_stmt-returns-in-Get
read_stmt-returns-in-Get t c =
    let h = ap (λ (st : Step). pass.reading_in st c.args.reading.now)
    (ap step_of c.in-Get.is ∙ step_get c.in-Get.to) in
    grind (arith, h)

pub read_stmt-returns-in_ok-read_stmts-in-If-2 : goal.read_stmt-returns-in_ok-read_stmts-in-If-2
read_stmt-returns-in_ok-read_stmts-in-If-2 t c =
    let h = ap (λ (st : Step). pass.reading_in st c.args.reading.now)
    (ap step_of c.in-If.is ∙ step_if c.in-If.test c.in-If.yes c.in-If.no) in
    grind (arith, h)

pub read_stmt-returns-in_ok-close_loop-in-Loop : goal.read_stmt-returns-in_ok-close_loop-in-Loop
read_stmt-returns-in_ok-close_loop-in-Loop t c =
    let h = ap (λ (st : Step). pass.reading_in st c.args.reading.now)
    (ap step_of c.in-Loop.is ∙ step_loop c.in-Loop.body c.in-Loop.post) in
    grind (arith, h)

pub read_stmt-returns-in-Break : goal.read_stmt-returns-in-Break
read_stmt-returns-in-Break t c =
    let h = ap (λ (st : Step). pass.reading_in st c.args.reading.now)
    (ap step_of c.in-Break.is ∙ step_break) in
    grind (arith, h)

pub read_stmt-returns-in-Continue : goal.read_stmt-returns-in-Continue
read_stmt-returns-in-Continue t c =
    let h = ap (λ (st : Step). pass.reading_in st c.args.reading.now)
    (ap step_of c.in-Continue.is ∙ step_continue) in
    grind (arith, h)

pub read_stmt-returns-in-Return : goal.read_stmt-returns-in-Return
read_stmt-returns-in-Return t c =
    let h = ap (λ (st : Step). pass.reading_in st c.args.reading.now)
    (ap step_of c.in-Return.is ∙ step_return c.in-Return.value) in
    grind (arith, h)

pub read_stmt-returns-in-Halt : goal.read_stmt-returns-in-Halt
read_stmt-returns-in-Halt t c =
    let h = ap (λ (st : Step). pass.reading_in st c.args.reading.now)
    (ap step_of c.in-Halt.is ∙ step_halt c.in-Halt.value) in
    grind (arith, h)
