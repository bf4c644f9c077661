use Rattle.c_compile_laws.proofs.NodeCounts.{completes}
use Rattle.c_compile_laws.proofs.guard_laws.completing_keeps_guards.Goals as goal

pub returns : goal.returns
returns c = completes
