use Rattle.std.proofs.Common.{subst, sym}
use Rattle.c_tree.specs.declared.typed.TypedProgram.{TypedProgram}
use Rattle.c_type.specs.inside.Programs.{program_fault}
use Rattle.c_type_rules.specs.Units.{Accepts}
use Rattle.c_type_rules.proofs.UnitsSound.{accepts_fine}
use Rattle.c_type_rules.proofs.UnitsComplete.{accepts_typed, stops_by_memory}
use Rattle.c_type_rules.proofs.exact.answers_are_exact.Goals as goal

pub returns : goal.returns
returns c = record {
  ok = λ p t h. subst (λ (t : TypedProgram). Accepts p t) (sym h.1) (accepts_typed p h.0);
  err = λ p t e a s. stops_by_memory (program_fault p) e (accepts_fine p t a).0 s;
}
