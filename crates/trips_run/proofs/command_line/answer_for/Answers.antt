use Rattle.trips_answers.proofs.Told.{asked_told}
use Rattle.trips_run.proofs.command_line.answer_for.Goals as goal

pub returns-clause-answer : goal.returns-clause-answer
returns-clause-answer g c = asked_told _ _ _ _ _ c.in_ok-asked.ensures.asked c.answer_to.ensures.answer
