use Rattle.flow_ease.proofs.Standing.{eases_itself}
use Rattle.flow_ease.proofs.laws.blocks_stand_for_themselves.Goals as goal

pub returns : goal.returns
returns c = eases_itself
