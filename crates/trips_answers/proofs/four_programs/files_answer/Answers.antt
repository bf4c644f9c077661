use Rattle.std.proofs.Common.{[], ◌∷◌}
use Rattle.trips_answers.specs.inside.Made.{seen_as}
use Rattle.trips_answers.proofs.Made.{made_more, not_made}
use Rattle.trips_answers.proofs.four_programs.files_answer.Goals as goal

pub returns-in-Ok : goal.returns-in-Ok
returns-in-Ok c = made_more c.args.settings c.args.input.now 0 [] c.args.first.now.form c.args.first.now.bytes
    c.in-Ok.image (seen_as c.args.second.now ∷ seen_as c.args.third.now ∷ seen_as c.args.fourth.now ∷ []) _
    c.in-Ok.ensures c.behind_one.ensures

pub returns-in-Err : goal.returns-in-Err
returns-in-Err c = not_made c.args.settings c.args.input.now 0 [] c.args.first.now.form c.args.first.now.bytes
    c.in-Err.why (seen_as c.args.second.now ∷ seen_as c.args.third.now ∷ seen_as c.args.fourth.now ∷ []) _
    c.in-Err.ensures c.no_image.ensures
