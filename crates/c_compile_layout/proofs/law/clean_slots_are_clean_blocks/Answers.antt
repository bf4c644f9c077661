use Rattle.c_compile_layout.proofs.Cleanness.{slots_clean}
use Rattle.c_compile_layout.proofs.law.clean_slots_are_clean_blocks.Goals as goal

pub returns : goal.returns
returns v = λ b ranked regs mem clean. slots_clean b ranked regs mem clean
