use Rattle.std.proofs.Common.{inl}
use Rattle.std.proofs.lemmas.Result.{IfOk-weaker}
use Rattle.trips_trace_answers.proofs.Opened.{recorded_told}
use Rattle.trips_trace_answers.proofs.answers.recorded.Goals as goal

pub returns-in-Ok : goal.returns-in-Ok
returns-in-Ok c = recorded_told c.args.most c.args.bytes.now c.args.input c.in-Ok.image _ c.in-Ok.ensures.ok
    c.image_recorded.ensures

pub returns-in-Err : goal.returns-in-Err
returns-in-Err c = IfOk-weaker c.closed_answer.result _ _ (λ answer h. inl h)
    (c.closed_answer.ensures c.args.bytes.now c.in-Err.ensures.err)
