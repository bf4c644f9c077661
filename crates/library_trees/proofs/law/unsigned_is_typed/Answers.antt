use Rattle.library_trees.proofs.UnsignedText.{unsigned_typed}
use Rattle.library_trees.proofs.law.unsigned_is_typed.Goals as goal

pub returns : goal.returns
returns c = record { law = unsigned_typed }
