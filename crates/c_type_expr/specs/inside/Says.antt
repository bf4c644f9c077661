-- What the typing of an expression answers.
use Rattle.std.specs.Prelude.{◌≡◌, Some, None, Result, Ok, Err}
use Rattle.c_tree.specs.declared.tree.Expr.{Expr}
use Rattle.c_tree.specs.declared.typed.TypedExpr.{TypedExpr}
use Rattle.c_type_expr.specs.Scope.{Scope}
use Rattle.c_type_expr.specs.declared.fault.TypeFault.{TypeFault}
use Rattle.c_type_expr.specs.declared.fault.TypeFault.TheVariants as fault
use Rattle.c_type_expr.specs.declared.role.Role.{Role}
use Rattle.c_type_expr.specs.Blames.{Blame}
use Rattle.c_type_expr.specs.Faults as faults
use Rattle.c_type_expr.specs.Trees.{tree}

-- the first fault, unless memory runs out
abbrev pub Stops : Blame → TypeFault → Type 0
Stops f fault.Memory = Unit {0}
Stops f e = f ≡ Some e

-- the value exactly where nothing fails
abbrev pub Says : {A : Type 0} → Blame → A → Result A TypeFault → Type 0
Says f t (Ok u) = (f ≡ None) × (u ≡ t)
Says f t (Err e) = Stops f e

-- an expression has its typed tree exactly where none of its nodes fails
abbrev pub Types : Expr → Role → Scope → Result TypedExpr TypeFault → Type 0
Types e r G result = Says (faults.fault e G r) (tree e G) result
