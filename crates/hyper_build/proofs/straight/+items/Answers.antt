use Rattle.std.proofs.Common.{ap, ◌∙◌, arith}
use Rattle.ir_forms.specs.inside.FlatCode.{Step}
use Rattle.ir_forms.specs.inside.FlatViews.{step_of}
use Rattle.ir_forms.proofs.Views.{step_let, step_frame, step_load, step_save, step_call, step_put}
use Rattle.ir_forms.proofs.Views.{step_get, step_if, step_loop, step_break, step_continue}
use Rattle.ir_forms.proofs.Views.{step_return, step_halt}
use Rattle.hyper_build.specs.inside.Emitted.{rest_of}
use Rattle.hyper_build.specs.inside.BackwardItems as code
use Rattle.hyper_build.proofs.straight.+items.Goals as goal

pub put_item-returns-in_ok-put_set-in-Let : goal.put_item-returns-in_ok-put_set-in-Let
put_item-returns-in_ok-put_set-in-Let t c =
    let h = ap (λ (st : Step).
    code.items_before (code.straight_items_in c.args.arrays st) (rest_of c.args.rest.now))
    (ap step_of c.in-Let.is ∙ step_let c.in-Let.to c.in-Let.op c.in-Let.a c.in-Let.b) in
    grind (arith, h)

pub put_item-returns-in_ok-put_frame_item-in-Frame : goal.put_item-returns-in_ok-put_frame_item-in-Frame
put_item-returns-in_ok-put_frame_item-in-Frame t c =
    let h = ap (λ (st : Step).
    code.items_before (code.straight_items_in c.args.arrays st) (rest_of c.args.rest.now))
    (ap step_of c.in-Frame.is ∙ step_frame c.in-Frame.to c.in-Frame.at) in
    grind (arith, h)

pub put_item-returns-in_ok-put_load-in-Load : goal.put_item-returns-in_ok-put_load-in-Load
put_item-returns-in_ok-put_load-in-Load t c =
    let h = ap (λ (st : Step).
    code.items_before (code.straight_items_in c.args.arrays st) (rest_of c.args.rest.now))
    (ap step_of c.in-Load.is ∙ step_load c.in-Load.to c.in-Load.op c.in-Load.address) in
    grind (arith, h)

pub put_item-returns-in_ok-put_save-in-Save : goal.put_item-returns-in_ok-put_save-in-Save
put_item-returns-in_ok-put_save-in-Save t c =
    let h = ap (λ (st : Step).
    code.items_before (code.straight_items_in c.args.arrays st) (rest_of c.args.rest.now))
    (ap step_of c.in-Save.is ∙ step_save c.in-Save.op c.in-Save.address c.in-Save.value) in
    grind (arith, h)

pub put_item-returns-in-Call : goal.put_item-returns-in-Call
put_item-returns-in-Call t c =
    let h = ap (λ (st : Step).
    code.items_before (code.straight_items_in c.args.arrays st) (rest_of c.args.rest.now))
    (ap step_of c.in-Call.is ∙ step_call c.in-Call.function c.in-Call.args c.in-Call.to) in
    grind (arith, h)

pub put_item-returns-in-Put : goal.put_item-returns-in-Put
put_item-returns-in-Put t c =
    let h = ap (λ (st : Step).
    code.items_before (code.straight_items_in c.args.arrays st) (rest_of c.args.rest.now))
    (ap step_of c.in-Put.is ∙ step_put _) in
    grind (arith, h)

pub put_item-returns-in-Get : goal.put_item-returns-in-Get
put_item-returns-in-Get t c =
    let h = ap (λ (st : Step).
    code.items_before (code.straight_items_in c.args.arrays st) (rest_of c.args.rest.now))
    (ap step_of c.in-Get.is ∙ step_get c.in-Get.to) in
    grind (arith, h)

pub put_item-returns-in_ok-put_if-in-If : goal.put_item-returns-in_ok-put_if-in-If
put_item-returns-in_ok-put_if-in-If t c =
    let h = ap (λ (st : Step).
    code.items_before (code.straight_items_in c.args.arrays st) (rest_of c.args.rest.now))
    (ap step_of c.in-If.is ∙ step_if c.in-If.test c.in-If.yes c.in-If.no) in
    grind (arith, h)

pub put_item-returns-in-Loop : goal.put_item-returns-in-Loop
put_item-returns-in-Loop t c =
    let h = ap (λ (st : Step).
    code.items_before (code.straight_items_in c.args.arrays st) (rest_of c.args.rest.now))
    (ap step_of c.in-Loop.is ∙ step_loop c.in-Loop.body c.in-Loop.post) in
    grind (arith, h)

pub put_item-returns-in-Break : goal.put_item-returns-in-Break
put_item-returns-in-Break t c =
    let h = ap (λ (st : Step).
    code.items_before (code.straight_items_in c.args.arrays st) (rest_of c.args.rest.now))
    (ap step_of c.in-Break.is ∙ step_break) in
    grind (arith, h)

pub put_item-returns-in-Continue : goal.put_item-returns-in-Continue
put_item-returns-in-Continue t c =
    let h = ap (λ (st : Step).
    code.items_before (code.straight_items_in c.args.arrays st) (rest_of c.args.rest.now))
    (ap step_of c.in-Continue.is ∙ step_continue) in
    grind (arith, h)

pub put_item-returns-in-Return : goal.put_item-returns-in-Return
put_item-returns-in-Return t c =
    let h = ap (λ (st : Step).
    code.items_before (code.straight_items_in c.args.arrays st) (rest_of c.args.rest.now))
    (ap step_of c.in-Return.is ∙ step_return _) in
    grind (arith, h)

pub put_item-returns-in-Halt : goal.put_item-returns-in-Halt
put_item-returns-in-Halt t c =
    let h = ap (λ (st : Step).
    code.items_before (code.straight_items_in c.args.arrays st) (rest_of c.args.rest.now))
    (ap step_of c.in-Halt.is ∙ step_halt _) in
    grind (arith, h)
