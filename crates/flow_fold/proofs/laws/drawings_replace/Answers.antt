use Rattle.flow_fold.proofs.DrawnWrites.{drawing_stands}
use Rattle.flow_fold.proofs.laws.drawings_replace.Goals as goal

pub returns : goal.returns
returns c = λ marks f. drawing_stands marks f
