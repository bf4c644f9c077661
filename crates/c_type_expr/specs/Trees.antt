-- The typed tree of an expression that has no fault: every conversion is a node (C17 6.3, 6.5).
use Rattle.std.specs.Prelude.{ℕ, List, [], ◌∷◌, Option, Some, None}
use Rattle.c_tree.specs.declared.token.Kind.{Kind}
use Rattle.c_tree.specs.declared.token.Kind.TheVariants.{Int}
use Rattle.c_tree.specs.declared.tree.Expr.{Expr, Expr-F, fold-Expr}
use Rattle.c_tree.specs.declared.tree.ExprNode.TheOpen.{ExprNode-F, Number, Name, Element, Call}
use Rattle.c_tree.specs.declared.tree.ExprNode.TheOpen.{Group, Unary, Cast, Bump, Binary, Choice}
use Rattle.c_tree.specs.declared.tree.ExprNode.TheOpen.{Assign, Comma}
use Rattle.c_tree.specs.declared.typed.Place.{Place}
use Rattle.c_tree.specs.declared.typed.Place.TheVariants as place
use Rattle.c_tree.specs.declared.typed.Callee.{Callee}
use Rattle.c_tree.specs.declared.typed.Callee.TheVariants as callee
use Rattle.c_tree.specs.declared.typed.Slot.{Slot}
use Rattle.c_tree.specs.declared.typed.Slot.TheVariants as slot
use Rattle.c_tree.specs.declared.typed.TypedExpr.{TypedExpr}
use Rattle.c_tree.specs.declared.typed.TypedNode.TheVariants as typed
use Rattle.c_type_expr.specs.declared.meaning.Meaning.{Meaning}
use Rattle.c_type_expr.specs.declared.meaning.Meaning.TheVariants as meaning
use Rattle.c_type_expr.specs.Scope.{Scope, look_up}
use Rattle.c_type_expr.specs.Faults.{slots_of, rest_of}
use Rattle.c_type_expr.specs.Conversions.{a, assign, binary, bump, cast, choice, comma, end_of_file, unary}
use Rattle.c_type_expr.specs.Conversions.{with_convert}

-- a name at a place as a typed expression
abbrev pub name_tree : ℕ → Option Meaning → TypedExpr
name_tree l (Some (meaning.Scalar k p)) = a l (Some k) (typed.Name p)
name_tree l (Some (meaning.Array k q p)) = a l (Some k) (typed.Name p)
name_tree l _ = end_of_file l

-- the type of an array's elements
abbrev pub array_kind : Option Meaning → Kind
array_kind (Some (meaning.Array k q p)) = k
array_kind _ = Int

-- where an array is
abbrev pub array_place : Option Meaning → Place
array_place (Some (meaning.Array k q p)) = p
array_place _ = place.Global 0

-- the type of a call, if it has a value
abbrev pub result_kind : Option Meaning → Option Kind
result_kind (Some (meaning.Function result params callee defined)) = result
result_kind _ = None

-- the callee, where there is one
abbrev pub callee_or : Option Callee → Callee
callee_or (Some c) = c
callee_or None = callee.GetChar

-- what a call of the name calls
abbrev pub callee_of : Option Meaning → Callee
callee_of (Some (meaning.Function result params callee defined)) = callee_or callee
callee_of _ = callee.GetChar

-- an argument, as the first of these slots takes it
abbrev pub argument : List Slot → TypedExpr → TypedExpr
argument (slot.Scalar k ∷ slots) e = with_convert k e
argument _ e = e

-- the arguments, each as its parameter takes it
abbrev pub arguments : List Slot → List (Scope → TypedExpr) → Scope → List TypedExpr
arguments slots [] G = []
arguments slots (e ∷ es) G = argument slots (e G) ∷ arguments (rest_of slots) es G

-- that of a first index, where there are two
abbrev pub row_tree : Option (Scope → TypedExpr) → Scope → Option TypedExpr
row_tree None G = None
row_tree (Some e) G = Some (e G)

-- the typed expression of a node that the token at the offset names
abbrev pub node_tree : ExprNode-F (ℕ → Scope → TypedExpr) (Scope → TypedExpr) → ℕ → Scope → TypedExpr
node_tree (Number v k) l G = a l (Some k) (typed.Number v)
node_tree (Name w) l G = name_tree l (look_up G w)
node_tree (Element w row i) l G =
    a l (Some (array_kind (look_up G w)))
    (typed.Element (array_place (look_up G w)) (row_tree row G) (i G))
node_tree (Call w es) l G =
    a l (result_kind (look_up G w))
    (typed.Call (callee_of (look_up G w)) (arguments (slots_of (look_up G w)) es G))
node_tree (Group e) l G = e G
node_tree (Unary op e) l G = unary l op (e G)
node_tree (Cast to e) l G = cast l to (e G)
node_tree (Bump op e) l G = bump l op (e G)
node_tree (Binary op x y) l G = binary l op (x G) (y G)
node_tree (Choice t x y) l G = choice l (t G) (x G) (y G)
node_tree (Assign op x y) l G = assign l op (x G) (y G)
node_tree (Comma x y) l G = comma l (x G) (y G)

-- that of an expression is that of its node, at the place of what names it
abbrev pub of_node : Expr-F (ℕ → Scope → TypedExpr) (Scope → TypedExpr) → Scope → TypedExpr
of_node e = e.node e.at

-- the typed expression of an expression, by recursion on it
unfoldable pub tree : Expr → Scope → TypedExpr
tree e = fold-Expr (ℕ → Scope → TypedExpr) (Scope → TypedExpr) node_tree of_node e
