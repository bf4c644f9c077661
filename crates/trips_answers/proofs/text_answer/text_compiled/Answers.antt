use Rattle.trips_answers.proofs.Told.{written_told, compile_refused_told}
use Rattle.trips_answers.proofs.text_answer.text_compiled.Goals as goal

pub returns-in-Ok : goal.returns-in-Ok
returns-in-Ok c =
    written_told c.args.source.now c.args.placing c.args.unroll c.in-Ok.image _ c.in-Ok.ensures.ok
    c.image_written.ensures

pub returns-in-Err : goal.returns-in-Err
returns-in-Err c = compile_refused_told c.args.source.now c.args.placing c.args.unroll c.in-Err.refusal _
    c.in-Err.ensures.err c.stage_refused.ensures.refused
