use Rattle.std.proofs.Common.{◌≡◌, true, false, ◌&&◌, ap, ◌∙◌, arith}
use Rattle.ir_forms.specs.inside.FlatCode.{Step}
use Rattle.ir_forms.specs.inside.FlatViews.{code_of, step_of}
use Rattle.ir_forms.proofs.Views.{step_let, step_frame, step_load, step_save, step_call, step_put}
use Rattle.ir_forms.proofs.Views.{step_get, step_if, step_loop, step_break, step_continue}
use Rattle.ir_forms.proofs.Views.{step_return, step_halt}
use Rattle.hyper_build.specs.inside.Ground.{plan}
use Rattle.hyper_build.specs.inside.BackwardItems.{is_if_item}
use Rattle.hyper_build.specs.inside.BackwardCode.{is_bare_code, is_break_code, is_test_step}
use Rattle.hyper_build.specs.inside.Forward.{number_in}
use Rattle.hyper_build.proofs.IfPasses.{number_item, number_test}
use Rattle.hyper_build.proofs.LoopPasses.{number_bare, number_full}
use Rattle.hyper_build.proofs.TestPasses.{numbers_plain, numbers_test, numbers_ifs}
use Rattle.hyper_build.proofs.numbering.+number.Goals as goal

pub number_stmt-returns-in_ok-number_single-in-Let : goal.number_stmt-returns-in_ok-number_single-in-Let
number_stmt-returns-in_ok-number_single-in-Let t c =
    let e = ap step_of c.in-Let.is ∙ step_let c.in-Let.to c.in-Let.op c.in-Let.a c.in-Let.b in
    let h = numbers_plain c.args.site.now c.args.last c.args.on (step_of c.args.s.now) c.args.numbering.now
    (λ j. ap (is_test_step j) e) in
    let k = ap (λ (st : Step). number_in (plan c.args.site.now) c.args.on st c.args.numbering.now) e in
    grind (arith, h, k)

pub number_stmt-returns-in_ok-number_single-in-Frame : goal.number_stmt-returns-in_ok-number_single-in-Frame
number_stmt-returns-in_ok-number_single-in-Frame t c =
    let e = ap step_of c.in-Frame.is ∙ step_frame c.in-Frame.to c.in-Frame.at in
    let h = numbers_plain c.args.site.now c.args.last c.args.on (step_of c.args.s.now) c.args.numbering.now
    (λ j. ap (is_test_step j) e) in
    let k = ap (λ (st : Step). number_in (plan c.args.site.now) c.args.on st c.args.numbering.now) e in
    grind (arith, h, k)

pub number_stmt-returns-in_ok-number_single-in-Load : goal.number_stmt-returns-in_ok-number_single-in-Load
number_stmt-returns-in_ok-number_single-in-Load t c =
    let e = ap step_of c.in-Load.is ∙ step_load c.in-Load.to c.in-Load.op c.in-Load.address in
    let h = numbers_plain c.args.site.now c.args.last c.args.on (step_of c.args.s.now) c.args.numbering.now
    (λ j. ap (is_test_step j) e) in
    let k = ap (λ (st : Step). number_in (plan c.args.site.now) c.args.on st c.args.numbering.now) e in
    grind (arith, h, k)

pub number_stmt-returns-in_ok-number_single-in-Save : goal.number_stmt-returns-in_ok-number_single-in-Save
number_stmt-returns-in_ok-number_single-in-Save t c =
    let e = ap step_of c.in-Save.is ∙ step_save c.in-Save.op c.in-Save.address c.in-Save.value in
    let h = numbers_plain c.args.site.now c.args.last c.args.on (step_of c.args.s.now) c.args.numbering.now
    (λ j. ap (is_test_step j) e) in
    let k = ap (λ (st : Step). number_in (plan c.args.site.now) c.args.on st c.args.numbering.now) e in
    grind (arith, h, k)

pub number_stmt-returns-in_ok-number_call-in-Call : goal.number_stmt-returns-in_ok-number_call-in-Call
number_stmt-returns-in_ok-number_call-in-Call t c =
    let e = ap step_of c.in-Call.is ∙ step_call c.in-Call.function c.in-Call.args c.in-Call.to in
    let h = numbers_plain c.args.site.now c.args.last c.args.on (step_of c.args.s.now) c.args.numbering.now
    (λ j. ap (is_test_step j) e) in
    let k = ap (λ (st : Step). number_in (plan c.args.site.now) c.args.on st c.args.numbering.now) e in
    grind (arith, h, k)

pub number_stmt-returns-in_ok-count_behind-in-Put : goal.number_stmt-returns-in_ok-count_behind-in-Put
number_stmt-returns-in_ok-count_behind-in-Put t c =
    let e = ap step_of c.in-Put.is ∙ step_put _ in
    let h = numbers_plain c.args.site.now c.args.last c.args.on (step_of c.args.s.now) c.args.numbering.now
    (λ j. ap (is_test_step j) e) in
    let k = ap (λ (st : Step). number_in (plan c.args.site.now) c.args.on st c.args.numbering.now) e in
    grind (arith, h, k)

pub number_stmt-returns-in_ok-number_get-in-Get : goal.number_stmt-returns-in_ok-number_get-in-Get
number_stmt-returns-in_ok-number_get-in-Get t c =
    let e = ap step_of c.in-Get.is ∙ step_get c.in-Get.to in
    let h = numbers_plain c.args.site.now c.args.last c.args.on (step_of c.args.s.now) c.args.numbering.now
    (λ j. ap (is_test_step j) e) in
    let k = ap (λ (st : Step). number_in (plan c.args.site.now) c.args.on st c.args.numbering.now) e in
    grind (arith, h, k)

pub number_stmt-returns-in_ok-add_note-in-Loop : goal.number_stmt-returns-in_ok-add_note-in-Loop
number_stmt-returns-in_ok-add_note-in-Loop t c =
    let e = ap step_of c.in-Loop.is ∙ step_loop c.in-Loop.body c.in-Loop.post in
    let h = numbers_plain c.args.site.now c.args.last c.args.on (step_of c.args.s.now) c.args.numbering.now
    (λ j. ap (is_test_step j) e) in
    let is : is_bare_code c.cuts-ends.result (code_of c.in-Loop.body) (code_of c.in-Loop.post) ≡ true = grind arith in
    let k = number_bare c.args.site.now c.args.on (step_of c.args.s.now) (code_of c.in-Loop.body)
    (code_of c.in-Loop.post)
    c.args.numbering.now c.cuts-ends.result e c.cuts-ends.ensures is in
    grind (arith, h, k)

pub number_stmt-returns-in_ok-add_note-in-Loop-2 : goal.number_stmt-returns-in_ok-add_note-in-Loop-2
number_stmt-returns-in_ok-add_note-in-Loop-2 t c =
    let e = ap step_of c.in-Loop.is ∙ step_loop c.in-Loop.body c.in-Loop.post in
    let h = numbers_plain c.args.site.now c.args.last c.args.on (step_of c.args.s.now) c.args.numbering.now
    (λ j. ap (is_test_step j) e) in
    let is : is_bare_code c.cuts-ends.result (code_of c.in-Loop.body) (code_of c.in-Loop.post) ≡ false =
    grind arith in
    let k = number_full c.args.site.now c.args.on (step_of c.args.s.now) (code_of c.in-Loop.body)
    (code_of c.in-Loop.post)
    c.args.numbering.now c.cuts-ends.result e c.cuts-ends.ensures is in
    grind (arith, h, k)

pub number_stmt-returns-in_ok-count_behind-in-Break : goal.number_stmt-returns-in_ok-count_behind-in-Break
number_stmt-returns-in_ok-count_behind-in-Break t c =
    let e = ap step_of c.in-Break.is ∙ step_break in
    let h = numbers_plain c.args.site.now c.args.last c.args.on (step_of c.args.s.now) c.args.numbering.now
    (λ j. ap (is_test_step j) e) in
    let k = ap (λ (st : Step). number_in (plan c.args.site.now) c.args.on st c.args.numbering.now) e in
    grind (arith, h, k)

pub number_stmt-returns-in_ok-count_behind-in-Continue : goal.number_stmt-returns-in_ok-count_behind-in-Continue
number_stmt-returns-in_ok-count_behind-in-Continue t c =
    let e = ap step_of c.in-Continue.is ∙ step_continue in
    let h = numbers_plain c.args.site.now c.args.last c.args.on (step_of c.args.s.now) c.args.numbering.now
    (λ j. ap (is_test_step j) e) in
    let k = ap (λ (st : Step). number_in (plan c.args.site.now) c.args.on st c.args.numbering.now) e in
    grind (arith, h, k)

pub number_stmt-returns-in_ok-count_behind-in-Return : goal.number_stmt-returns-in_ok-count_behind-in-Return
number_stmt-returns-in_ok-count_behind-in-Return t c =
    let e = ap step_of c.in-Return.is ∙ step_return _ in
    let h = numbers_plain c.args.site.now c.args.last c.args.on (step_of c.args.s.now) c.args.numbering.now
    (λ j. ap (is_test_step j) e) in
    let k = ap (λ (st : Step). number_in (plan c.args.site.now) c.args.on st c.args.numbering.now) e in
    grind (arith, h, k)

pub number_stmt-returns-in_ok-count_behind-in-Halt : goal.number_stmt-returns-in_ok-count_behind-in-Halt
number_stmt-returns-in_ok-count_behind-in-Halt t c =
    let e = ap step_of c.in-Halt.is ∙ step_halt _ in
    let h = numbers_plain c.args.site.now c.args.last c.args.on (step_of c.args.s.now) c.args.numbering.now
    (λ j. ap (is_test_step j) e) in
    let k = ap (λ (st : Step). number_in (plan c.args.site.now) c.args.on st c.args.numbering.now) e in
    grind (arith, h, k)

pub number_stmt-returns-in_ok-count_blocks-in-If : goal.number_stmt-returns-in_ok-count_blocks-in-If
number_stmt-returns-in_ok-count_blocks-in-If t c =
    let q : c.args.last && (c.joins-joined.result && is_break_code (code_of c.in-If.no)) ≡ true = grind arith in
    let h = numbers_test c.args.site.now c.args.last c.args.on (step_of c.args.s.now) c.in-If.test _
    (code_of c.in-If.no)
    c.args.numbering.now c.joins-joined.result (ap step_of c.in-If.is ∙ step_if c.in-If.test c.in-If.yes c.in-If.no)
    c.joins-joined.ensures q in
    grind (arith, h)

pub number_stmt-returns-in_ok-number_items-in-If : goal.number_stmt-returns-in_ok-number_items-in-If
number_stmt-returns-in_ok-number_items-in-If t c =
    let q : c.args.last && (c.joins-joined.result && is_break_code (code_of c.in-If.no)) ≡ false = grind arith in
    let k = numbers_ifs c.args.site.now c.args.last c.args.on (step_of c.args.s.now) c.in-If.test
    (code_of c.in-If.yes)
    (code_of c.in-If.no) c.args.numbering.now c.joins-joined.result
    (ap step_of c.in-If.is ∙ step_if c.in-If.test c.in-If.yes c.in-If.no) c.joins-joined.ensures q in
    let is : is_if_item c.joins-joined.result (code_of c.in-If.yes) (code_of c.in-If.no) ≡ true = grind arith in
    let h = number_item c.args.site.now c.args.on (step_of c.args.s.now) c.in-If.test _ _ c.args.numbering.now
    c.joins-joined.result (ap step_of c.in-If.is
    ∙ step_if c.in-If.test c.in-If.yes c.in-If.no) c.joins-joined.ensures is in
    grind (arith, h, k)

pub number_stmt-returns-in_ok-count_blocks-in-If-2 : goal.number_stmt-returns-in_ok-count_blocks-in-If-2
number_stmt-returns-in_ok-count_blocks-in-If-2 t c =
    let q : c.args.last && (c.joins-joined.result && is_break_code (code_of c.in-If.no)) ≡ false = grind arith in
    let k = numbers_ifs c.args.site.now c.args.last c.args.on (step_of c.args.s.now) c.in-If.test
    (code_of c.in-If.yes)
    (code_of c.in-If.no) c.args.numbering.now c.joins-joined.result
    (ap step_of c.in-If.is ∙ step_if c.in-If.test c.in-If.yes c.in-If.no) c.joins-joined.ensures q in
    let is : is_if_item c.joins-joined.result (code_of c.in-If.yes) (code_of c.in-If.no) ≡ false = grind arith in
    let h = number_test c.args.site.now c.args.on (step_of c.args.s.now) c.in-If.test _ _ c.args.numbering.now
    c.joins-joined.result (ap step_of c.in-If.is
    ∙ step_if c.in-If.test c.in-If.yes c.in-If.no) c.joins-joined.ensures is in
    grind (arith, h, k)
