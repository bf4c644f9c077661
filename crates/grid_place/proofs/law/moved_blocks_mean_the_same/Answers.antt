use Rattle.grid_place.proofs.Alike.{same_plain}
use Rattle.grid_place.proofs.law.moved_blocks_mean_the_same.Goals as goal

pub returns : goal.returns
returns v = λ b c p q fits good m w blocks k regs mem. same_plain p q b c fits good m w regs mem
    blocks k
