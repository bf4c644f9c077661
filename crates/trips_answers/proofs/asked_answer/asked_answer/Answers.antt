use Rattle.std.proofs.Common.{◌∙◌, ap}
use Rattle.trips_answers.specs.Asks.{limit_of}
use Rattle.trips_answers.specs.inside.Settings.{request_seen}
use Rattle.trips_answers.proofs.Told.{bytes_told}
use Rattle.trips_answers.proofs.asked_answer.asked_answer.Goals as goal

pub returns-in-Bytes-clause-answer : goal.returns-in-Bytes-clause-answer
returns-in-Bytes-clause-answer g c =
    bytes_told (request_seen c.args.asked) (g.F.Files.held c.args.files.now) _ _ _ _ _ _ _ _ _
    c.in_ok-read_origin.ensures.kept c.in_ok-read_origin.ensures.later c.file_answer.ensures.later
    (c.limit_for-limit.ensures ∙ ap limit_of c.form_of.ensures) c.in-Bytes.is c.as_slice.ensures.value
    c.in_ok-read_origin.ensures.ok c.file_answer.ensures.answer
