use Rattle.c_compile_layout.proofs.Linked.{moved_resolved}
use Rattle.c_compile_layout.proofs.Targets.{targeted_resolved}
use Rattle.c_compile_layout.proofs.law.passes_never_read_immediates.Goals as goal

pub returns-clause-targets : goal.returns-clause-targets
returns-clause-targets v = λ r f t still is. targeted_resolved r still f t is

pub returns-clause-places : goal.returns-clause-places
returns-clause-places v = λ r p t u m. moved_resolved r p t u m
