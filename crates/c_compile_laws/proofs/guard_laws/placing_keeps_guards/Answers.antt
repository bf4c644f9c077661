use Rattle.c_compile_laws.proofs.Placings.{places}
use Rattle.c_compile_laws.proofs.guard_laws.placing_keeps_guards.Goals as goal

pub returns : goal.returns
returns c = places
