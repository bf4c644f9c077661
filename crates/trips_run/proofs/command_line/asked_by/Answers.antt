use Rattle.trips_answers.proofs.Told.{seen_told}
use Rattle.trips_run.proofs.command_line.asked_by.Goals as goal

pub returns-in-Ok-clause-asked : goal.returns-in-Ok-clause-asked
returns-in-Ok-clause-asked c = seen_told c.in-Ok.asked _ c.in-Ok.ensures.ok
