-- Full expressions that may be left out: their first fault and their typed tree; and whether a block is open.
use Rattle.std.specs.Prelude.{Option, Some, None}
use Rattle.c_tree.specs.declared.token.Kind.{Kind}
use Rattle.c_tree.specs.declared.tree.Expr.{Expr}
use Rattle.c_tree.specs.declared.typed.TypedExpr.{TypedExpr}
use Rattle.c_type_expr.specs.Scope.{Scope}
use Rattle.c_type_expr.specs.declared.role.Role.{Role}
use Rattle.c_type_expr.specs.Blames.{Blame}
use Rattle.c_type_expr.specs.Trees.{tree}
use Rattle.c_type_expr.specs.Conversions.{with_convert}
use Rattle.c_type_expr.specs.Constants.{full}

-- the first fault of a full expression that may be left out
abbrev pub full_if : Option Expr → Role → Scope → Blame
full_if None r G = None
full_if (Some e) r G = full e r G

-- its typed tree
abbrev pub tree_if : Option Expr → Scope → Option TypedExpr
tree_if None G = None
tree_if (Some e) G = Some (tree e G)

-- a value converted to a type, where there is one
abbrev pub value_of : Option Expr → Kind → Scope → Option TypedExpr
value_of None k G = None
value_of (Some e) k G = Some (with_convert k (tree e G))
