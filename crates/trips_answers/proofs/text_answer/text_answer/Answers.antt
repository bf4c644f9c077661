use Rattle.std.proofs.Common.{subst}
use Rattle.c_meaning_spec.specs.Laws.{IsInput}
use Rattle.trips_answers.proofs.Told.{compiled_told, run_refused_told}
use Rattle.trips_answers.proofs.text_answer.text_answer.Goals as goal

pub returns-in-Ok : goal.returns-in-Ok
returns-in-Ok c = compiled_told c.args.text.now c.args.input c.args.settings c.in-Ok.image _
    c.in-Ok.ensures.ok (subst IsInput c.as_slice.ensures.value c.is_input.ensures) c.run_image.ensures

pub returns-in-Err : goal.returns-in-Err
returns-in-Err c = run_refused_told c.args.text.now c.args.input c.args.settings c.in-Err.refusal _
    c.in-Err.ensures.err c.stage_refused.ensures.refused
