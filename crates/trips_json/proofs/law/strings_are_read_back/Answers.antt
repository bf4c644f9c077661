use Rattle.trips_json.proofs.Reading.{read_back}
use Rattle.trips_json.proofs.law.strings_are_read_back.Goals as goal

pub returns : goal.returns
returns c = read_back
