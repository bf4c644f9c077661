use Rattle.flow_fold.proofs.SharedBlocks.{sharing_stands}
use Rattle.flow_fold.proofs.laws.sharings_replace.Goals as goal

pub returns : goal.returns
returns c = λ f g s. sharing_stands f g s
