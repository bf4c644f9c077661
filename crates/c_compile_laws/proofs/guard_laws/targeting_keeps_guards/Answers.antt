use Rattle.c_compile_laws.proofs.Targets.{targets}
use Rattle.c_compile_laws.proofs.guard_laws.targeting_keeps_guards.Goals as goal

pub returns : goal.returns
returns c = targets
