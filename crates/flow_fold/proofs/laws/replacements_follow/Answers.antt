use Rattle.flow_fold.proofs.Following.{stands_on}
use Rattle.flow_fold.proofs.laws.replacements_follow.Goals as goal

pub returns : goal.returns
returns c = λ f g h a b. stands_on f g h a b
