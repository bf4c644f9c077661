use Rattle.library_trees.proofs.FillText.{fill_typed}
use Rattle.library_trees.proofs.law.fill_is_typed.Goals as goal

pub returns : goal.returns
returns c = record { law = fill_typed }
