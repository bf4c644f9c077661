use Rattle.flow_fold.proofs.SweptAway.{sweeping_stands}
use Rattle.flow_fold.proofs.laws.sweepings_replace.Goals as goal

pub returns : goal.returns
returns c = λ f g s. sweeping_stands f g s
