use Rattle.std.proofs.Common.{[], ◌∷◌}
use Rattle.trips_answers.specs.inside.Made.{seen_as}
use Rattle.trips_answers.proofs.Made.{bytes_last}
use Rattle.trips_answers.proofs.further.fourth_read.Goals as goal

pub returns-in-Bytes-clause-answer : goal.returns-in-Bytes-clause-answer
returns-in-Bytes-clause-answer g c =
    bytes_last c.args.settings c.args.input.now _ _ _
    (seen_as c.args.first.now ∷ seen_as c.args.second.now ∷ seen_as c.args.third.now ∷ []) _ _ _ _ _ _
    c.form_named-form.ensures c.limit_for.ensures c.in-Bytes.is c.in_ok-read.ensures.later c.in_ok-read.ensures.ok
    c.files_answer.ensures
