use Rattle.trips_trace_answers.proofs.Opened.{judged_told}
use Rattle.trips_trace_answers.proofs.answers.image_verified.Goals as goal

pub returns-in-Ok-clause-answer : goal.returns-in-Ok-clause-answer
returns-in-Ok-clause-answer g c = judged_told c.args.image c.args.input _ _ c.in-Ok.judged _ c.in-Ok.ensures.judged
    c.judged_answer.ensures
