use Rattle.library_trees.proofs.HexadecimalText.{hexadecimal_typed}
use Rattle.library_trees.proofs.law.hexadecimal_is_typed.Goals as goal

pub returns : goal.returns
returns c = record { law = hexadecimal_typed }
