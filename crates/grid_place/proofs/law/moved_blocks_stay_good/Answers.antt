use Rattle.grid_place.proofs.StillFits.{still_fits}
use Rattle.grid_place.proofs.StillInOrder.{still_good}
use Rattle.grid_place.proofs.law.moved_blocks_stay_good.Goals as goal

pub returns-clause-fits : goal.returns-clause-fits
returns-clause-fits v = λ b c p q fits m w. still_fits p q b c fits m w

pub returns-clause-good : goal.returns-clause-good
returns-clause-good v = λ b c p q fits good m w. still_good p q b c fits good m w
