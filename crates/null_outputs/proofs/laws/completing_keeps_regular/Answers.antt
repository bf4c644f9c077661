use Rattle.null_outputs.proofs.Regular.{stays_regular}
use Rattle.null_outputs.proofs.laws.completing_keeps_regular.Goals as goal

pub returns : goal.returns
returns c = λ b fits r. stays_regular b fits r
