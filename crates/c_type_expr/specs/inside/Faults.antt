-- Beside what is believed of Faults.antt: the first node of an expression that fails, in the order of the text
-- (C17 6.5).
use Rattle.std.specs.Prelude.{List, [], ◌∷◌}
use Rattle.std.specs.Prelude.{None}
use Rattle.c_tree.specs.declared.tree.Expr.{Expr}
use Rattle.c_tree.specs.declared.typed.Slot.{Slot}
use Rattle.c_type_expr.specs.Scope.{Scope}
use Rattle.c_type_expr.specs.Blames.{Blame, first}
use Rattle.c_type_expr.specs.Faults.{role_at, rest_of, fault}

-- the first of the arguments that fails, each as its parameter takes it
abbrev pub args_fault : List Slot → List Expr → Scope → Blame
args_fault slots [] G = None
args_fault slots (e ∷ es) G = first (fault e G (role_at slots)) (args_fault (rest_of slots) es G)
