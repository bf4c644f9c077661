use Rattle.c_compile_laws.proofs.TrimmedPrograms.{trimmed_keeps}
use Rattle.c_compile_laws.proofs.trim_laws.trimmed_programs_keep_assigned.Goals as goal

pub returns : goal.returns
returns c = trimmed_keeps
