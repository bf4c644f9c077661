use Rattle.std.proofs.Common.{ℕ, List, [], ◌∷◌, Option, ap}
use Rattle.trips_answers.specs.Request.{form_named}
use Rattle.trips_answers.specs.inside.Made.{seen_as}
use Rattle.trips_answers.proofs.Made.{bytes_more}
use Rattle.trips_answers.proofs.further.third_read.Goals as goal

pub returns-in-Bytes-clause-answer : goal.returns-in-Bytes-clause-answer
returns-in-Bytes-clause-answer g c =
    bytes_more c.args.settings c.args.input.now _ _ _ _ _
    (seen_as c.args.first.now ∷ seen_as c.args.second.now ∷ []) _ _ _ _ _ _ _
    c.form_named-form.ensures c.limit_for.ensures c.in-Bytes.is
    (ap (λ (held : List ℕ → Option (List ℕ)). (form_named c.args.fourth.now, held c.args.fourth.now) ∷ [])
    c.in_ok-read.ensures.kept)
    c.in_ok-read.ensures.later c.fourth_read.ensures.later c.in_ok-read.ensures.ok c.fourth_read.ensures.answer
