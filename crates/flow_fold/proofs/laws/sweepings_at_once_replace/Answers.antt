use Rattle.flow_fold.proofs.SweptAtOnce.{sweeping_all_stands}
use Rattle.flow_fold.proofs.laws.sweepings_at_once_replace.Goals as goal

pub returns : goal.returns
returns c = λ f g s. sweeping_all_stands f g s
