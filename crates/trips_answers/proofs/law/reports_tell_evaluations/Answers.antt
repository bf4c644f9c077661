use Rattle.trips_answers.proofs.Meanings.{tells_deep, tells_done}
use Rattle.trips_answers.proofs.law.reports_tell_evaluations.Goals as goal

pub returns-clause-done : goal.returns-clause-done
returns-clause-done c = tells_done

pub returns-clause-deep : goal.returns-clause-deep
returns-clause-deep c = tells_deep
