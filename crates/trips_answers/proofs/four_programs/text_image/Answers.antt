use Rattle.trips_answers.proofs.NoImages.{front_so}
use Rattle.trips_answers.proofs.four_programs.text_image.Goals as goal

pub returns-in-Err : goal.returns-in-Err
returns-in-Err c = front_so c.args.settings c.args.text.now c.in-Err.refusal _ _ c.in-Err.ensures.err
    c.stage_refused.ensures.refused c.refusal_of.ensures
