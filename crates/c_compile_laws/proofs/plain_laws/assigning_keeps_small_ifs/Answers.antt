use Rattle.c_compile_laws.proofs.Kept.{assigns_small}
use Rattle.c_compile_laws.proofs.plain_laws.assigning_keeps_small_ifs.Goals as goal

pub returns : goal.returns
returns c = assigns_small
