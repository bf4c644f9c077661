use Rattle.trips_json.proofs.Telling.{parts_told}
use Rattle.trips_json.proofs.law.outputs_are_told.Goals as goal

pub returns : goal.returns
returns c = parts_told
