use Rattle.c_compile_laws.proofs.Programs.{lowers_plain}
use Rattle.c_compile_laws.proofs.plain_laws.lowering_keeps_plain_ifs.Goals as goal

pub returns : goal.returns
returns c = lowers_plain
