use Rattle.std.proofs.lemmas.Result.{IfErr-weaker}
use Rattle.trips_trace_answers.proofs.Opened.{opened_holds}
use Rattle.trips_trace_answers.proofs.opening.opened.Goals as goal

pub returns-in-Ok-clause-ok : goal.returns-in-Ok-clause-ok
returns-in-Ok-clause-ok c = opened_holds c.args.bytes.now c.in-Ok.image _ c.in-Ok.ensures.ok c.checked.ensures.same
    c.checked.ensures.good

pub returns-in-Ok-clause-err : goal.returns-in-Ok-clause-err
returns-in-Ok-clause-err c = IfErr-weaker c.checked.result _ _ (λ why h. h c.args.bytes.now c.in-Ok.ensures.ok)
    c.checked.ensures.err
