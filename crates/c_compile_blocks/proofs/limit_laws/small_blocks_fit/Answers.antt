use Rattle.c_compile_blocks.proofs.SmallFit.{small_fits}
use Rattle.c_compile_blocks.proofs.limit_laws.small_blocks_fit.Goals as goal

pub returns : goal.returns
returns c = small_fits
