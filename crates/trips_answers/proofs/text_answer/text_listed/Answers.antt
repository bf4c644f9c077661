use Rattle.trips_answers.proofs.Told.{listed_told, list_refused_told}
use Rattle.trips_answers.proofs.text_answer.text_listed.Goals as goal

pub returns-in-Ok : goal.returns-in-Ok
returns-in-Ok c = listed_told c.args.source.now c.args.placing c.args.unroll c.in-Ok.report.items c.in-Ok.ensures.ok

pub returns-in-Err : goal.returns-in-Err
returns-in-Err c = list_refused_told c.args.source.now c.args.placing c.args.unroll c.in-Err.refusal _
    c.in-Err.ensures.err c.stage_refused.ensures.refused
