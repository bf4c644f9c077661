use Rattle.trips_answers.proofs.NoImages.{bytes_made}
use Rattle.trips_answers.proofs.four_programs.bytes_image.Goals as goal

pub returns-in-Ok : goal.returns-in-Ok
returns-in-Ok c = bytes_made c.args.settings c.args.bytes.now c.in-Ok.image _ c.in-Ok.ensures.ok
    c.checked_image.ensures
