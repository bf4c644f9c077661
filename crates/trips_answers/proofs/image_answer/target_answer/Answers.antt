use Rattle.trips_answers.proofs.Told.{target_told}
use Rattle.trips_answers.proofs.image_answer.target_answer.Goals as goal

pub returns-in-Ok : goal.returns-in-Ok
returns-in-Ok c = target_told c.args.text.now c.args.input c.args.settings c.in-Ok.image _
    c.in-Ok.ensures.ok c.checked_answer.ensures
