use Rattle.std.proofs.Common.{◌≡◌, true, false, ◌&&◌, ap, ◌∙◌, arith, drop}
use Rattle.ir_forms.specs.inside.FlatCode.{Step}
use Rattle.ir_forms.specs.inside.FlatViews.{code_of, step_of}
use Rattle.ir_forms.proofs.Views.{step_let, step_frame, step_load, step_save, step_call, step_put}
use Rattle.ir_forms.proofs.Views.{step_get, step_if, step_loop, step_break, step_continue}
use Rattle.ir_forms.proofs.Views.{step_return, step_halt}
use Rattle.hyper_build.specs.inside.Backward.{emission_of, last_note}
use Rattle.hyper_build.specs.inside.Laws.{cuts_by, joins_by}
use Rattle.hyper_build.specs.inside.BackwardItems.{is_if_item}
use Rattle.hyper_build.specs.inside.BackwardCode as code
use Rattle.hyper_build.proofs.IfPasses.{emit_item, emit_test}
use Rattle.hyper_build.proofs.LoopPasses.{emit_bare, emit_full}
use Rattle.hyper_build.specs.inside.BackwardCode.{is_bare_code, is_break_code, is_test_step}
use Rattle.hyper_build.proofs.TestPasses.{part_plain, part_tests, part_ifs}
use Rattle.hyper_build.proofs.code.+emit.Goals as goal

pub put_stmt-returns-in_ok-put_let-in-Let : goal.put_stmt-returns-in_ok-put_let-in-Let
put_stmt-returns-in_ok-put_let-in-Let t c =
    let e = ap step_of c.in-Let.is ∙ step_let c.in-Let.to c.in-Let.op c.in-Let.a c.in-Let.b in
    let h = part_plain c.args.site.now c.args.broke c.args.again c.args.last c.args.on (step_of c.args.s.now)
    (emission_of c.args.emitting.now) (λ j. ap (is_test_step j) e) in
    let k = ap (λ (st : Step).
    code.emit_in c.args.site.now c.args.broke c.args.again c.args.on st (emission_of c.args.emitting.now)) e in
    grind (arith, h, k)

pub put_stmt-returns-in_ok-put_frame-in-Frame : goal.put_stmt-returns-in_ok-put_frame-in-Frame
put_stmt-returns-in_ok-put_frame-in-Frame t c =
    let e = ap step_of c.in-Frame.is ∙ step_frame c.in-Frame.to c.in-Frame.at in
    let h = part_plain c.args.site.now c.args.broke c.args.again c.args.last c.args.on (step_of c.args.s.now)
    (emission_of c.args.emitting.now) (λ j. ap (is_test_step j) e) in
    let k = ap (λ (st : Step).
    code.emit_in c.args.site.now c.args.broke c.args.again c.args.on st (emission_of c.args.emitting.now)) e in
    grind (arith, h, k)

pub put_stmt-returns-in_ok-put_loading-in-Load : goal.put_stmt-returns-in_ok-put_loading-in-Load
put_stmt-returns-in_ok-put_loading-in-Load t c =
    let e = ap step_of c.in-Load.is ∙ step_load c.in-Load.to c.in-Load.op c.in-Load.address in
    let h = part_plain c.args.site.now c.args.broke c.args.again c.args.last c.args.on (step_of c.args.s.now)
    (emission_of c.args.emitting.now) (λ j. ap (is_test_step j) e) in
    let k = ap (λ (st : Step).
    code.emit_in c.args.site.now c.args.broke c.args.again c.args.on st (emission_of c.args.emitting.now)) e in
    grind (arith, h, k)

pub put_stmt-returns-in_ok-put_storing-in-Save : goal.put_stmt-returns-in_ok-put_storing-in-Save
put_stmt-returns-in_ok-put_storing-in-Save t c =
    let e = ap step_of c.in-Save.is ∙ step_save c.in-Save.op c.in-Save.address c.in-Save.value in
    let h = part_plain c.args.site.now c.args.broke c.args.again c.args.last c.args.on (step_of c.args.s.now)
    (emission_of c.args.emitting.now) (λ j. ap (is_test_step j) e) in
    let k = ap (λ (st : Step).
    code.emit_in c.args.site.now c.args.broke c.args.again c.args.on st (emission_of c.args.emitting.now)) e in
    grind (arith, h, k)

pub put_stmt-returns-in_ok-put_call-in-Call : goal.put_stmt-returns-in_ok-put_call-in-Call
put_stmt-returns-in_ok-put_call-in-Call t c =
    let e = ap step_of c.in-Call.is ∙ step_call c.in-Call.function c.in-Call.args c.in-Call.to in
    let h = part_plain c.args.site.now c.args.broke c.args.again c.args.last c.args.on (step_of c.args.s.now)
    (emission_of c.args.emitting.now) (λ j. ap (is_test_step j) e) in
    let k = ap (λ (st : Step).
    code.emit_in c.args.site.now c.args.broke c.args.again c.args.on st (emission_of c.args.emitting.now)) e in
    grind (arith, h, k)

pub put_stmt-returns-in_ok-put_byte-in-Put : goal.put_stmt-returns-in_ok-put_byte-in-Put
put_stmt-returns-in_ok-put_byte-in-Put t c =
    let e = ap step_of c.in-Put.is ∙ step_put _ in
    let h = part_plain c.args.site.now c.args.broke c.args.again c.args.last c.args.on (step_of c.args.s.now)
    (emission_of c.args.emitting.now) (λ j. ap (is_test_step j) e) in
    let k = ap (λ (st : Step).
    code.emit_in c.args.site.now c.args.broke c.args.again c.args.on st (emission_of c.args.emitting.now)) e in
    grind (arith, h, k)

pub put_stmt-returns-in_ok-put_get-in-Get : goal.put_stmt-returns-in_ok-put_get-in-Get
put_stmt-returns-in_ok-put_get-in-Get t c =
    let e = ap step_of c.in-Get.is ∙ step_get c.in-Get.to in
    let h = part_plain c.args.site.now c.args.broke c.args.again c.args.last c.args.on (step_of c.args.s.now)
    (emission_of c.args.emitting.now) (λ j. ap (is_test_step j) e) in
    let k = ap (λ (st : Step).
    code.emit_in c.args.site.now c.args.broke c.args.again c.args.on st (emission_of c.args.emitting.now)) e in
    grind (arith, h, k)

pub put_stmt-returns-in_ok-put_out-in-Loop-2 : goal.put_stmt-returns-in_ok-put_out-in-Loop-2
put_stmt-returns-in_ok-put_out-in-Loop-2 t c =
    let e = ap step_of c.in-Loop.is ∙ step_loop c.in-Loop.body c.in-Loop.post in
    let h = part_plain c.args.site.now c.args.broke c.args.again c.args.last c.args.on (step_of c.args.s.now)
    (emission_of c.args.emitting.now) (λ j. ap (is_test_step j) e) in
    let en : c.take_note-note.result ≡ last_note (emission_of c.args.emitting.now).notes = grind arith in
    let is : is_bare_code c.cuts-ends-in-Loop.result (code_of c.in-Loop.body) (code_of c.in-Loop.post) ≡ true =
    grind arith in
    let k = emit_bare c.args.site.now c.args.broke c.args.again c.args.on (step_of c.args.s.now)
    (code_of c.in-Loop.body)
    (code_of c.in-Loop.post) (emission_of c.args.emitting.now) c.take_note-note.result c.cuts-ends-in-Loop.result e en
    c.cuts-ends-in-Loop.ensures is in
    grind (arith, h, k)

pub put_stmt-returns-in_ok-put_out-in-Loop-4 : goal.put_stmt-returns-in_ok-put_out-in-Loop-4
put_stmt-returns-in_ok-put_out-in-Loop-4 t c =
    let e = ap step_of c.in-Loop.is ∙ step_loop c.in-Loop.body c.in-Loop.post in
    let h = part_plain c.args.site.now c.args.broke c.args.again c.args.last c.args.on (step_of c.args.s.now)
    (emission_of c.args.emitting.now) (λ j. ap (is_test_step j) e) in
    let en : c.take_note-note.result ≡ last_note (emission_of c.args.emitting.now).notes = grind arith in
    let is : is_bare_code c.cuts-ends-in-Loop.result (code_of c.in-Loop.body) (code_of c.in-Loop.post) ≡ false =
    grind arith in
    let k = emit_full c.args.site.now c.args.broke c.args.again c.args.on (step_of c.args.s.now)
    (code_of c.in-Loop.body)
    (code_of c.in-Loop.post) (emission_of c.args.emitting.now) c.take_note-note.result c.cuts-ends-in-Loop.result e en
    c.cuts-ends-in-Loop.ensures is in
    grind (arith, h, k)

pub put_stmt-returns-in_ok-put_jump-in-Break : goal.put_stmt-returns-in_ok-put_jump-in-Break
put_stmt-returns-in_ok-put_jump-in-Break t c =
    let e = ap step_of c.in-Break.is ∙ step_break in
    let h = part_plain c.args.site.now c.args.broke c.args.again c.args.last c.args.on (step_of c.args.s.now)
    (emission_of c.args.emitting.now) (λ j. ap (is_test_step j) e) in
    let k = ap (λ (st : Step).
    code.emit_in c.args.site.now c.args.broke c.args.again c.args.on st (emission_of c.args.emitting.now)) e in
    grind (arith, h, k)

pub put_stmt-returns-in_ok-put_jump-in-Continue : goal.put_stmt-returns-in_ok-put_jump-in-Continue
put_stmt-returns-in_ok-put_jump-in-Continue t c =
    let e = ap step_of c.in-Continue.is ∙ step_continue in
    let h = part_plain c.args.site.now c.args.broke c.args.again c.args.last c.args.on (step_of c.args.s.now)
    (emission_of c.args.emitting.now) (λ j. ap (is_test_step j) e) in
    let k = ap (λ (st : Step).
    code.emit_in c.args.site.now c.args.broke c.args.again c.args.on st (emission_of c.args.emitting.now)) e in
    grind (arith, h, k)

pub put_stmt-returns-in_ok-put_return-in-Return : goal.put_stmt-returns-in_ok-put_return-in-Return
put_stmt-returns-in_ok-put_return-in-Return t c =
    let e = ap step_of c.in-Return.is ∙ step_return _ in
    let h = part_plain c.args.site.now c.args.broke c.args.again c.args.last c.args.on (step_of c.args.s.now)
    (emission_of c.args.emitting.now) (λ j. ap (is_test_step j) e) in
    let k = ap (λ (st : Step).
    code.emit_in c.args.site.now c.args.broke c.args.again c.args.on st (emission_of c.args.emitting.now)) e in
    grind (arith, h, k)

pub put_stmt-returns-in_ok-put_halt-in-Halt : goal.put_stmt-returns-in_ok-put_halt-in-Halt
put_stmt-returns-in_ok-put_halt-in-Halt t c =
    let e = ap step_of c.in-Halt.is ∙ step_halt _ in
    let h = part_plain c.args.site.now c.args.broke c.args.again c.args.last c.args.on (step_of c.args.s.now)
    (emission_of c.args.emitting.now) (λ j. ap (is_test_step j) e) in
    let k = ap (λ (st : Step).
    code.emit_in c.args.site.now c.args.broke c.args.again c.args.on st (emission_of c.args.emitting.now)) e in
    grind (arith, h, k)

pub put_stmt-returns-in_ok-put_merged-in-If : goal.put_stmt-returns-in_ok-put_merged-in-If
put_stmt-returns-in_ok-put_merged-in-If t c =
    let q : c.args.last && (c.joins-joined.result && is_break_code (code_of c.in-If.no)) ≡ true = grind arith in
    let h = part_tests c.args.site.now c.args.broke c.args.again c.args.last c.args.on
    (step_of c.args.s.now) c.in-If.test
    _ (code_of c.in-If.no) (emission_of c.args.emitting.now) c.in_ok-statements-in-If.statements c.joins-joined.result
    c.cuts-ends.result (ap step_of c.in-If.is ∙ step_if c.in-If.test c.in-If.yes c.in-If.no)
    c.in_ok-statements-in-If.ensures (c.joins-joined.ensures
    ∙ ap (joins_by c.args.site.now.joins) c.fallen_by-place.ensures) q
    (c.cuts-ends.ensures ∙ ap (cuts_by c.args.site.now.cuts) c.fallen_by-place.ensures) in
    grind (arith, h)

pub put_stmt-returns-in_ok-put_joined-in-If : goal.put_stmt-returns-in_ok-put_joined-in-If
put_stmt-returns-in_ok-put_joined-in-If t c =
    let q : c.args.last && (c.joins-joined.result && is_break_code (code_of c.in-If.no)) ≡ false = grind arith in
    let k = part_ifs c.args.site.now c.args.broke c.args.again c.args.last c.args.on
    (step_of c.args.s.now) c.in-If.test
    (code_of c.in-If.yes) (code_of c.in-If.no) (emission_of c.args.emitting.now) c.in_ok-statements-in-If.statements
    c.joins-joined.result (ap step_of c.in-If.is ∙ step_if c.in-If.test c.in-If.yes c.in-If.no)
    c.in_ok-statements-in-If.ensures (c.joins-joined.ensures
    ∙ ap (joins_by c.args.site.now.joins) c.fallen_by-place.ensures) q in
    let is : is_if_item c.joins-joined.result (code_of c.in-If.yes) (code_of c.in-If.no) ≡ true = grind arith in
    let h = emit_item c.args.site.now c.args.broke c.args.again c.args.on (step_of c.args.s.now) c.in-If.test _ _
    (emission_of c.args.emitting.now) c.in_ok-statements-in-If.statements c.joins-joined.result
    (ap step_of c.in-If.is ∙ step_if c.in-If.test c.in-If.yes c.in-If.no) c.in_ok-statements-in-If.ensures
    (c.joins-joined.ensures ∙ ap (joins_by c.args.site.now.joins) c.fallen_by-place.ensures) is in
    grind (arith, h, k)

pub put_stmt-returns-in_ok-put_test-in-If : goal.put_stmt-returns-in_ok-put_test-in-If
put_stmt-returns-in_ok-put_test-in-If t c =
    let q : c.args.last && (c.joins-joined.result && is_break_code (code_of c.in-If.no)) ≡ false = grind arith in
    let k = part_ifs c.args.site.now c.args.broke c.args.again c.args.last c.args.on
    (step_of c.args.s.now) c.in-If.test
    (code_of c.in-If.yes) (code_of c.in-If.no) (emission_of c.args.emitting.now) c.in_ok-statements-in-If.statements
    c.joins-joined.result (ap step_of c.in-If.is ∙ step_if c.in-If.test c.in-If.yes c.in-If.no)
    c.in_ok-statements-in-If.ensures (c.joins-joined.ensures
    ∙ ap (joins_by c.args.site.now.joins) c.fallen_by-place.ensures) q in
    let is : is_if_item c.joins-joined.result (code_of c.in-If.yes) (code_of c.in-If.no) ≡ false = grind arith in
    let h = emit_test c.args.site.now c.args.broke c.args.again c.args.on (step_of c.args.s.now) c.in-If.test _ _
    (emission_of c.args.emitting.now) c.in_ok-statements-in-If.statements c.joins-joined.result
    (ap step_of c.in-If.is ∙ step_if c.in-If.test c.in-If.yes c.in-If.no) c.in_ok-statements-in-If.ensures
    (c.joins-joined.ensures ∙ ap (joins_by c.args.site.now.joins) c.fallen_by-place.ensures) is in
    grind (arith, h, k)

pub put_turn-returns : goal.put_turn-returns
put_turn-returns t c =
    let e : c.loop-at.at ≡ 0 = omega arith in
    c.loop-at.invariant.done
    ∙ ap (λ n. code.emit_turn c.args.site.now c.args.broke c.args.again (code_of (drop n c.args.stmts.now))
    (emission_of c.args.emitting.now)) e
