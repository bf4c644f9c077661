use Rattle.std.proofs.Common.{[], ◌∷◌}
use Rattle.trips_answers.specs.inside.Made.{seen_as}
use Rattle.trips_answers.proofs.Made.{made_more, not_made}
use Rattle.trips_answers.proofs.four_programs.behind_one.Goals as goal

pub returns-in-Ok : goal.returns-in-Ok
returns-in-Ok c = made_more c.args.settings c.args.input.now 1 (c.args.first ∷ [])
    c.args.second.now.form c.args.second.now.bytes c.in-Ok.image
    (seen_as c.args.third.now ∷ seen_as c.args.fourth.now ∷ []) _ c.in-Ok.ensures c.behind_two.ensures

pub returns-in-Err : goal.returns-in-Err
returns-in-Err c = not_made c.args.settings c.args.input.now 1 (c.args.first ∷ [])
    c.args.second.now.form c.args.second.now.bytes c.in-Err.why
    (seen_as c.args.third.now ∷ seen_as c.args.fourth.now ∷ []) _ c.in-Err.ensures c.no_image.ensures
