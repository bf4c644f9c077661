use Rattle.library_trees.proofs.DigitsText.{digits_typed}
use Rattle.library_trees.proofs.law.digits_is_typed.Goals as goal

pub returns : goal.returns
returns c = record { law = digits_typed }
