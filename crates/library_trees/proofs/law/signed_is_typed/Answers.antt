use Rattle.library_trees.proofs.SignedText.{signed_typed}
use Rattle.library_trees.proofs.law.signed_is_typed.Goals as goal

pub returns : goal.returns
returns c = record { law = signed_typed }
