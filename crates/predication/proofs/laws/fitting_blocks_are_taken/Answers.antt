use Rattle.predication.proofs.Addressed.{takes_addressed}
use Rattle.predication.proofs.laws.fitting_blocks_are_taken.Goals as goal

pub returns : goal.returns
returns c = takes_addressed
