use Rattle.block_image.proofs.Words.{slot_again}
use Rattle.block_image.proofs.WordsTaken.{slot_takes}
use Rattle.block_image.proofs.law.words_are_exact.Goals as goal

pub returns-clause-again : goal.returns-clause-again
returns-clause-again c = slot_again

pub returns-clause-takes : goal.returns-clause-takes
returns-clause-takes c = slot_takes
