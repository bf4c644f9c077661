use Rattle.c_compile_blocks.proofs.Machine.{fits_machine}
use Rattle.c_compile_blocks.proofs.PlainFit.{plain_stays}
use Rattle.c_compile_blocks.proofs.limit_laws.little_blocks_fit.Goals as goal

pub returns-clause-fit : goal.returns-clause-fit
returns-clause-fit c = fits_machine

pub returns-clause-stay : goal.returns-clause-stay
returns-clause-stay c = plain_stays
