use Rattle.std.proofs.Common.{subst, sym}
use Rattle.c_tree.specs.declared.typed.TypedStmt.{TypedStmt}
use Rattle.c_type.specs.declared.state.State.{State}
use Rattle.c_type.specs.Statements.{part}
use Rattle.c_type_rules.specs.Statements.{Types}
use Rattle.c_type_rules.proofs.Sound.{types_fine}
use Rattle.c_type_rules.proofs.Complete.{whole_stmt}
use Rattle.c_type_rules.proofs.exact.statements_are_exact.Goals as goal

pub returns : goal.returns
returns c = λ b v s t w. (
  types_fine b v s t w,
  λ h. subst (λ (t : TypedStmt). Types b v s t w) (sym h.1)
      (subst (λ (w : State). Types b v s ((part s).tree v) w) (sym h.2) (whole_stmt s b v h.0)),
)
