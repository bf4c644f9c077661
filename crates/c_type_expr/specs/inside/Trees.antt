-- Beside what is believed of Trees.antt: the typed tree of an expression that has no fault.
use Rattle.std.specs.Prelude.{List, [], ◌∷◌}
use Rattle.c_tree.specs.declared.tree.Expr.{Expr}
use Rattle.c_tree.specs.declared.typed.Slot.{Slot}
use Rattle.c_tree.specs.declared.typed.TypedExpr.{TypedExpr}
use Rattle.c_type_expr.specs.Scope.{Scope}
use Rattle.c_type_expr.specs.Faults.{rest_of}
use Rattle.c_type_expr.specs.Trees.{argument, tree}

-- those of arguments, each as its parameter takes it
abbrev pub args_tree : List Slot → List Expr → Scope → List TypedExpr
args_tree slots [] G = []
args_tree slots (e ∷ es) G = argument slots (tree e G) ∷ args_tree (rest_of slots) es G
