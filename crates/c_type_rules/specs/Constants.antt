-- Which expressions are constant expressions (C17 6.6).
use Rattle.std.specs.Prelude.{◌≡◌, ℕ, List, Some}
use Rattle.c_tree.specs.declared.token.Kind.{Kind}
use Rattle.c_tree.specs.declared.tree.UnaryOp.{UnaryOp}
use Rattle.c_tree.specs.declared.tree.BinaryOp.{BinaryOp}
use Rattle.c_tree.specs.declared.tree.Expr.{Expr}
use Rattle.c_tree.specs.declared.tree.ExprNode.TheVariants as node
use Rattle.c_type_expr.specs.declared.meaning.Meaning.TheVariants as meaning
use Rattle.c_type_expr.specs.declared.spot.Spot.{Spot}
use Rattle.c_type_expr.specs.Scope.{Scope, look_up}
use Rattle.c_type_expr.specs.Roles.{at}
use Rattle.c_constant.specs.Constant.{length_of}

-- the expression is made of numbers, `EOF` of the include, groups, casts, and unary, binary and choice
-- operators alone
pub data IsConstant (G : Scope) : Expr → Type 0 where
  number : {l : Spot} {v : ℕ} {k : Kind} → IsConstant G (at l (node.Number v k))
  ending : {l : Spot} {w : List ℕ} → look_up G w ≡ Some meaning.EndOfFile
      → IsConstant G (at l (node.Name w))
  group : {l : Spot} {e : Expr} → IsConstant G e → IsConstant G (at l (node.Group e))
  operator : {l : Spot} {op : UnaryOp} {e : Expr} → IsConstant G e → IsConstant G (at l (node.Unary op e))
  conversion : {l : Spot} {k : Kind} {e : Expr} → IsConstant G e → IsConstant G (at l (node.Cast k e))
  operation : {l : Spot} {op : BinaryOp} {x y : Expr}
      → IsConstant G x → IsConstant G y → IsConstant G (at l (node.Binary op x y))
  choice : {l : Spot} {c x y : Expr}
      → IsConstant G c → IsConstant G x → IsConstant G y → IsConstant G (at l (node.Choice c x y))

-- an array's size: a constant expression of a value of at least 1
abbrev pub Size : Scope → Expr → ℕ → Type 0
Size G e n = IsConstant G e × (length_of e ≡ Some n)
