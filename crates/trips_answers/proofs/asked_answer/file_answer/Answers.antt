use Rattle.trips_answers.specs.inside.Settings.{request_seen}
use Rattle.trips_answers.proofs.Told.{input_told}
use Rattle.trips_answers.proofs.asked_answer.file_answer.Goals as goal

pub returns-clause-answer : goal.returns-clause-answer
returns-clause-answer g c =
    input_told (request_seen c.args.asked) _ _ _ _ _ _ _ _ c.in_ok-loaded.ensures.kept c.in_ok-loaded.ensures.later
    c.input_answer.ensures.later c.in_ok-loaded.ensures.ok c.input_answer.ensures.answer
