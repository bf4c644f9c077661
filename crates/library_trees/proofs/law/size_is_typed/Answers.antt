use Rattle.library_trees.proofs.SizeText.{size_typed}
use Rattle.library_trees.proofs.law.size_is_typed.Goals as goal

pub returns : goal.returns
returns c = record { law = size_typed }
