-- The typed expressions of operations, whose operands are converted (C17 6.3, 6.5).
use Rattle.std.specs.Prelude.{ℕ, cond, Option, Some, None}
use Rattle.c_tree.specs.declared.token.Kind.{Kind}
use Rattle.c_tree.specs.declared.token.Kind.TheVariants.{Int}
use Rattle.c_tree.specs.declared.tree.UnaryOp.{UnaryOp}
use Rattle.c_tree.specs.declared.tree.BumpOp.{BumpOp}
use Rattle.c_tree.specs.declared.tree.BinaryOp.{BinaryOp}
use Rattle.c_tree.specs.declared.typed.TypedExpr.{TypedExpr}
use Rattle.c_tree.specs.declared.typed.TypedNode.{TypedNode}
use Rattle.c_tree.specs.declared.typed.TypedNode.TheVariants as typed
use Rattle.c_constant.specs.Kinds.{same_kind, common}
use Rattle.c_constant.specs.Operation.{left_at, right_at, result_of, unary_at, unary_result}

-- the typed expression of a place, a type and a node
abbrev pub a : ℕ → Option Kind → TypedNode → TypedExpr
a l k n = record { kind = k; at = l; node = n }

-- the type of a value; a call that gives none has none
abbrev pub kind_in : Option Kind → Kind
kind_in None = Int
kind_in (Some k) = k

-- the type of a typed expression
abbrev pub kind_of : TypedExpr → Kind
kind_of e = kind_in e.kind

-- a conversion to another type is a node, at the place of its operand
abbrev pub with_convert : Kind → TypedExpr → TypedExpr
with_convert k e = cond (same_kind (kind_of e) k) e (a e.at (Some k) (typed.Convert k e))

-- the word of -1
abbrev pub end_of_file : ℕ → TypedExpr
end_of_file l = a l (Some Int) (typed.Number 18446744073709551615)

-- a unary operation at a place, as all that follow: its operand converts to the type in which it is done
abbrev pub unary : ℕ → UnaryOp → TypedExpr → TypedExpr
unary l op e =
    let k = unary_at op (kind_of e) in a l (Some (unary_result op k)) (typed.Unary op (with_convert k e))

-- a cast, whose operand does not convert by itself
abbrev pub cast : ℕ → Kind → TypedExpr → TypedExpr
cast l to e = a l (Some to) (typed.Cast to e)

-- `++` and `--`, of the type of what is written to
abbrev pub bump : ℕ → BumpOp → TypedExpr → TypedExpr
bump l op e = a l (Some (kind_of e)) (typed.Bump op e)

-- a binary operation: each operand converts to the type that the operation wants of it
abbrev pub binary : ℕ → BinaryOp → TypedExpr → TypedExpr → TypedExpr
binary l op x y =
    let k = left_at op (kind_of x) (kind_of y) in
    a l (Some (result_of op k))
    (typed.Binary op (with_convert k x) (with_convert (right_at op (kind_of x) (kind_of y)) y))

-- a choice: both legs convert to their common type
abbrev pub choice : ℕ → TypedExpr → TypedExpr → TypedExpr → TypedExpr
choice l t x y =
    let k = common (kind_of x) (kind_of y) in
    a l (Some k) (typed.Choice t (with_convert k x) (with_convert k y))

-- the type in which the operation of an assignment is done, and that to which its right side
-- converts
abbrev pub assigned_at : Option BinaryOp → Kind → Kind → Kind
assigned_at None j k = j
assigned_at (Some op) j k = left_at op j k

-- the type to which the right side of an assignment converts
abbrev pub assigned_from : Option BinaryOp → Kind → Kind → Kind
assigned_from None j k = j
assigned_from (Some op) j k = right_at op j k

-- an assignment, of the type of its left side
abbrev pub assign : ℕ → Option BinaryOp → TypedExpr → TypedExpr → TypedExpr
assign l op x y =
    a l (Some (kind_of x))
    (typed.Assign op (assigned_at op (kind_of x) (kind_of y)) x
    (with_convert (assigned_from op (kind_of x) (kind_of y)) y))

-- a comma, of the type of its right side
abbrev pub comma : ℕ → TypedExpr → TypedExpr → TypedExpr
comma l x y = a l y.kind (typed.Comma x y)
