use Rattle.flow_fold.proofs.FoldedBlocks.{folding_stands}
use Rattle.flow_fold.proofs.laws.foldings_replace.Goals as goal

pub returns : goal.returns
returns c = λ f g s. folding_stands f g s
