use Rattle.trips_answers.proofs.NoImages.{target_made}
use Rattle.trips_answers.proofs.four_programs.target_image.Goals as goal

pub returns-in-Ok : goal.returns-in-Ok
returns-in-Ok c = target_made c.args.settings c.args.text.now c.in-Ok.image _ c.in-Ok.ensures.ok
    c.checked_image.ensures
