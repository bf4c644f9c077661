use Rattle.c_compile_laws.proofs.Targets.{resolves}
use Rattle.c_compile_laws.proofs.guard_laws.resolving_keeps_guards.Goals as goal

pub returns : goal.returns
returns c = resolves
