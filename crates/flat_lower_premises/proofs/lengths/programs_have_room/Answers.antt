use Rattle.flat_lower_premises.proofs.UnitSizes.{programs_have_room}
use Rattle.flat_lower_premises.proofs.lengths.programs_have_room.Goals as goal

pub returns : goal.returns
returns c = programs_have_room
