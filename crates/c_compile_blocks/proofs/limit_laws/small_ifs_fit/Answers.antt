use Rattle.c_compile_blocks.proofs.SmallFit.{small_ifs}
use Rattle.c_compile_blocks.proofs.limit_laws.small_ifs_fit.Goals as goal

pub returns : goal.returns
returns c = small_ifs
