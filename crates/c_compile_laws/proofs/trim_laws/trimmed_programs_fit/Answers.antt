use Rattle.c_compile_laws.proofs.TrimmedPrograms.{trimmed_fits}
use Rattle.c_compile_laws.proofs.trim_laws.trimmed_programs_fit.Goals as goal

pub returns : goal.returns
returns c = trimmed_fits
