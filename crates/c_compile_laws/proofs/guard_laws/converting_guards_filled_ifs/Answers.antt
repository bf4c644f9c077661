use Rattle.c_compile_laws.proofs.Conversions.{converts}
use Rattle.c_compile_laws.proofs.guard_laws.converting_guards_filled_ifs.Goals as goal

pub returns : goal.returns
returns c = converts
