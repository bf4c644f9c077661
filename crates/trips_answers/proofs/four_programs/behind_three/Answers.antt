use Rattle.std.proofs.Common.{[], ◌∷◌}
use Rattle.trips_answers.proofs.Made.{made_all, not_made}
use Rattle.trips_answers.proofs.four_programs.behind_three.Goals as goal

pub returns-in-Ok : goal.returns-in-Ok
returns-in-Ok c = made_all c.args.settings c.args.input.now 3 (c.args.first ∷ c.args.second ∷ c.args.third ∷ [])
    c.args.fourth.now.form c.args.fourth.now.bytes c.in-Ok.image _ c.in-Ok.ensures c.four_answer.ensures

pub returns-in-Err : goal.returns-in-Err
returns-in-Err c = not_made c.args.settings c.args.input.now 3 (c.args.first ∷ c.args.second ∷ c.args.third ∷ [])
    c.args.fourth.now.form c.args.fourth.now.bytes c.in-Err.why [] _ c.in-Err.ensures c.no_image.ensures
