-- What may stand where an expression is wanted for something, and which expressions name an object that
-- may be written to (C17 6.3.2.1).
use Rattle.std.specs.Prelude.{ℕ, Bool, true, false, ◌&&◌, nat_eq, Option, Some, None, List}
use Rattle.c_tree.specs.declared.token.Kind.{Kind}
use Rattle.c_constant.specs.Kinds.{same_kind}
use Rattle.c_type_expr.specs.declared.spot.Spot.{Spot}
use Rattle.c_type_expr.specs.declared.role.Role.{Role}
use Rattle.c_type_expr.specs.declared.role.Role.TheVariants.{Free, Written, Array, Surplus}
use Rattle.c_tree.specs.declared.tree.Expr.{Expr}
use Rattle.c_tree.specs.declared.tree.ExprNode.{ExprNode}
use Rattle.c_tree.specs.declared.tree.ExprNode.TheVariants as node

-- may a value that is no scalar, element or array stand there?
abbrev pub takes_value : Role → Bool
takes_value Written = false
takes_value (Array k q) = false
takes_value _ = true

-- may a scalar or an element stand there?
abbrev pub takes_element : Role → Bool
takes_element (Array k q) = false
takes_element _ = true

-- may a call without a value stand there?
abbrev pub takes_void : Role → Bool
takes_void Free = true
takes_void _ = false

-- are two second sizes one, or both missing?
abbrev pub same_row : Option ℕ → Option ℕ → Bool
same_row None None = true
same_row (Some m) (Some n) = nat_eq m n
same_row _ _ = false

-- may the name of an array of this type and this second size stand there?
abbrev pub takes_array : Kind → Option ℕ → Role → Bool
takes_array j p (Array k q) = same_kind j k && same_row p q
takes_array j p Surplus = true
takes_array j p _ = false

-- may a call of a function of this result stand there?
abbrev pub takes_result : Option Kind → Role → Bool
takes_result None r = takes_void r
takes_result (Some k) r = takes_value r

-- the expression of a spot and a node
abbrev pub at : Spot → ExprNode → Expr
at l n = record { offset = l.offset; at = l.at; node = n }

-- where an expression stands
abbrev pub spot_of : Expr → Spot
spot_of e = record { offset = e.offset; at = e.at }

-- a name, an element, or one of these in groups
pub data IsPlace : Expr → Type 0 where
  a_name : {l : Spot} {w : List ℕ} → IsPlace (at l (node.Name w))
  an_element : {l : Spot} {w : List ℕ} (row : Option Expr) (i : Expr)
      → IsPlace (at l (node.Element w row i))
  in_group : {l : Spot} {e : Expr} → IsPlace e → IsPlace (at l (node.Group e))
