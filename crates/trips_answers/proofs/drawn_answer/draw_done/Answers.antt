use Rattle.trips_answers.proofs.DrawnTold.{image_drawn_told, not_drawn_told}
use Rattle.trips_answers.proofs.drawn_answer.draw_done.Goals as goal

pub returns-in-Ok : goal.returns-in-Ok
returns-in-Ok c = image_drawn_told c.args.form c.args.settings c.args.bytes.now c.in-Ok.image _ c.in-Ok.ensures
    c.block_drawn.ensures

pub returns-in-Err : goal.returns-in-Err
returns-in-Err c = not_drawn_told c.args.form c.args.settings c.args.bytes.now c.in-Err.why _ c.in-Err.ensures
    c.no_image.ensures
