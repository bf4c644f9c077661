use Rattle.flow_fold.proofs.Following.{stands_for_itself}
use Rattle.flow_fold.proofs.laws.blocks_replace_themselves.Goals as goal

pub returns : goal.returns
returns c = λ f. stands_for_itself f
