use Rattle.grid_place.proofs.StillClean.{still_clean}
use Rattle.grid_place.proofs.law.moved_blocks_stay_clean.Goals as goal

pub returns : goal.returns
returns v = λ b c p q fits good m w regs mem. still_clean p q b c fits good m w regs mem
