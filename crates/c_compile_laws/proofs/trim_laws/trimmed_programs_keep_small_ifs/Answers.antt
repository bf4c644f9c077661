use Rattle.c_compile_laws.proofs.TrimmedPrograms.{trimmed_ifs}
use Rattle.c_compile_laws.proofs.trim_laws.trimmed_programs_keep_small_ifs.Goals as goal

pub returns : goal.returns
returns c = trimmed_ifs
