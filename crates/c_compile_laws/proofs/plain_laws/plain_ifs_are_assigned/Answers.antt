use Rattle.c_compile_laws.proofs.Programs.{assigns_plain}
use Rattle.c_compile_laws.proofs.plain_laws.plain_ifs_are_assigned.Goals as goal

pub returns : goal.returns
returns c = assigns_plain
