use Rattle.c_compile_laws.proofs.GuardPrograms.{programs}
use Rattle.c_compile_laws.proofs.guard_laws.programs_guard_filled_ifs.Goals as goal

pub returns : goal.returns
returns c = programs
