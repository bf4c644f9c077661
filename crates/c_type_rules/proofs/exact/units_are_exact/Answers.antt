use Rattle.std.proofs.Common.{subst, sym}
use Rattle.c_tree.specs.declared.typed.TypedProgram.{TypedProgram}
use Rattle.c_type_rules.specs.Units.{Accepts}
use Rattle.c_type_rules.proofs.UnitsSound.{accepts_fine}
use Rattle.c_type_rules.proofs.UnitsComplete.{accepts_typed}
use Rattle.c_type_rules.proofs.exact.units_are_exact.Goals as goal

pub returns : goal.returns
returns c = λ p t. (accepts_fine p t, λ h. subst (λ (t : TypedProgram). Accepts p t) (sym h.1) (accepts_typed p h.0))
