use Rattle.null_outputs.proofs.Unguarded.{stays}
use Rattle.null_outputs.proofs.laws.straight_blocks_stay.Goals as goal

pub returns : goal.returns
returns c = λ b s. stays b s
