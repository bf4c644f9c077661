use Rattle.trips_answers.proofs.SavedTold.{text_saved_told, save_refused_told}
use Rattle.trips_answers.proofs.saved_answer.text_saved.Goals as goal

pub returns-in-Ok : goal.returns-in-Ok
returns-in-Ok c = text_saved_told c.args.text.now c.args.input c.args.settings c.in-Ok.image _ c.in-Ok.ensures.ok
    c.image_saved.ensures

pub returns-in-Err : goal.returns-in-Err
returns-in-Err c = save_refused_told c.args.text.now c.args.input c.args.settings c.in-Err.refusal _
    c.in-Err.ensures.err c.stage_refused.ensures.refused
