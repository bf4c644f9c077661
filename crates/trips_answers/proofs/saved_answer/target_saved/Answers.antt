use Rattle.trips_answers.proofs.SavedTold.{target_saved_told}
use Rattle.trips_answers.proofs.saved_answer.target_saved.Goals as goal

pub returns-in-Ok : goal.returns-in-Ok
returns-in-Ok c = target_saved_told c.args.text.now c.args.input c.args.settings c.in-Ok.image _
    c.in-Ok.ensures.ok c.checked_saved.ensures
