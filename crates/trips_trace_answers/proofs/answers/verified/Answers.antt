use Rattle.std.proofs.Common.{inl}
use Rattle.std.proofs.lemmas.Result.{IfOk-weaker}
use Rattle.trips_trace_answers.proofs.Opened.{verified_told}
use Rattle.trips_trace_answers.proofs.answers.verified.Goals as goal

pub returns-in-Ok-clause-answer : goal.returns-in-Ok-clause-answer
returns-in-Ok-clause-answer g c = verified_told c.args.bytes.now c.args.input _ _ c.in-Ok.image _ c.in-Ok.ensures.ok
    c.image_verified.ensures.answer

pub returns-in-Err-clause-answer : goal.returns-in-Err-clause-answer
returns-in-Err-clause-answer g c = IfOk-weaker c.closed_answer.result _ _ (λ answer h. inl h)
    (c.closed_answer.ensures c.args.bytes.now c.in-Err.ensures.err)
