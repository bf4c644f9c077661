use Rattle.trips_answers.proofs.Causes as causes
use Rattle.trips_run.proofs.answering.answer_written.Goals as goal

pub returns-in-Ok-write_all-clause-answered : goal.returns-in-Ok-write_all-clause-answered
returns-in-Ok-write_all-clause-answered g c =
    causes.whole _ _ _ _ _ _ _ c.in-Ok.answer.report.items c.in-Ok.ensures.answer
    (rw c.deref.ensures.value at c.in-Ok-write_all.ensures.ok)

pub returns-clause-answered : goal.returns-clause-answered
returns-clause-answered g c = causes.part _ _ _ _ _ _ c.in-Ok.answer.status c.in-Ok.answer.report.items
    c.in-Ok.ensures.answer (rw c.deref.ensures.value at c.write_all.ensures.part) c.in-Err.ensures.fault
