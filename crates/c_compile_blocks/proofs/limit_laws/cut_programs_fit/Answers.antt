use Rattle.c_compile_blocks.proofs.FittingPrograms.{programs_fit}
use Rattle.c_compile_blocks.proofs.limit_laws.cut_programs_fit.Goals as goal

pub returns : goal.returns
returns c = programs_fit
