use Rattle.block_draw.proofs.Places.{one_place}
use Rattle.block_draw.proofs.law.slots_stand_apart.Goals as goal

pub returns : goal.returns
returns c = one_place
