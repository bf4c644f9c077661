use Rattle.std.proofs.Common.{subst, sym}
use Rattle.c_tree.specs.declared.typed.TypedExpr.{TypedExpr}
use Rattle.c_type_expr.specs.Typed.{Typed}
use Rattle.c_type_expr.proofs.Theorem.{sound, complete}
use Rattle.c_type_expr.proofs.exact.typing_is_exact.Goals as goal

pub returns : goal.returns
returns c = λ G r e t. (
  sound G r e t,
  λ h. subst (λ (t : TypedExpr). Typed G r e t) (sym h.1)
      (complete e G r h.0),
)
