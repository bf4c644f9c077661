-- Expressions each of whose numbers is a word of its type, and each of whose assignments has an operator of C's.
use Rattle.std.specs.Prelude.{ℕ, List, [], ◌∷◌, Option, Some, None}
use Rattle.c_tree.specs.inside.Trees.{Node, node_of}
use Rattle.c_tree.specs.declared.token.Kind.{Kind}
use Rattle.c_tree.specs.declared.tree.UnaryOp.{UnaryOp}
use Rattle.c_tree.specs.declared.tree.BumpOp.{BumpOp}
use Rattle.c_tree.specs.declared.tree.BinaryOp.{BinaryOp}
use Rattle.c_tree.specs.declared.tree.ArraySize.{ArraySize}
use Rattle.c_tree.specs.declared.tree.ArraySize.TheVariants as size
use Rattle.c_tree.specs.declared.tree.Expr.{Expr}
use Rattle.c_tree.specs.declared.tree.ExprNode.TheOpen.{Number, Name, Element, Call}
use Rattle.c_tree.specs.declared.tree.ExprNode.TheOpen.{Group, Unary, Cast, Bump, Binary, Choice}
use Rattle.c_tree.specs.declared.tree.ExprNode.TheOpen.{Assign, Comma}
use Rattle.c_tree.specs.declared.tree.Label.{Label}
use Rattle.c_constant.specs.Kinds.{IsWord}
use Rattle.flat_lower_premises.specs.inside.Assigners.{IsAssigner}

-- EXPRESSIONS

mutual
  -- each number in the node is a word of its type, and each assignment by an operator of C's
  pub data NodeHasWords : Node → Type 0 where
    number : {v : ℕ} {k : Kind} → IsWord k v → NodeHasWords (Number v k)
    name : {w : List ℕ} → NodeHasWords (Name w)
    element : {w : List ℕ} {i : Expr}
        → NodeHasWords (node_of i) → NodeHasWords (Element w None i)
    row_element : {w : List ℕ} {x i : Expr}
        → NodeHasWords (node_of x) → NodeHasWords (node_of i) → NodeHasWords (Element w (Some x) i)
    call : {w : List ℕ} {es : List Expr} → ExprsHaveWords es → NodeHasWords (Call w es)
    group : {e : Expr} → NodeHasWords (node_of e) → NodeHasWords (Group e)
    operator : {op : UnaryOp} {e : Expr}
        → NodeHasWords (node_of e) → NodeHasWords (Unary op e)
    conversion : {k : Kind} {e : Expr} → NodeHasWords (node_of e) → NodeHasWords (Cast k e)
    step : {op : BumpOp} {e : Expr} → NodeHasWords (node_of e) → NodeHasWords (Bump op e)
    operation : {op : BinaryOp} {x y : Expr}
        → NodeHasWords (node_of x) → NodeHasWords (node_of y) → NodeHasWords (Binary op x y)
    either : {c x y : Expr}
        → NodeHasWords (node_of c) → NodeHasWords (node_of x) → NodeHasWords (node_of y)
        → NodeHasWords (Choice c x y)
    assignment : {op : Option BinaryOp} {x y : Expr} → IsAssigner op
        → NodeHasWords (node_of x) → NodeHasWords (node_of y) → NodeHasWords (Assign op x y)
    sequence : {x y : Expr}
        → NodeHasWords (node_of x) → NodeHasWords (node_of y) → NodeHasWords (Comma x y)

  -- the same of all arguments of a call
  pub data ExprsHaveWords : List Expr → Type 0 where
    no_expr : ExprsHaveWords []
    one_expr : {e : Expr} {es : List Expr}
        → NodeHasWords (node_of e) → ExprsHaveWords es → ExprsHaveWords (e ∷ es)

-- each number in the expression is a word of its type
abbrev pub ExprHasWords : Expr → Type 0
ExprHasWords e = NodeHasWords (node_of e)

-- the same where there is an expression
abbrev pub ExprIfHasWords : Option Expr → Type 0
ExprIfHasWords None = Unit {0}
ExprIfHasWords (Some e) = ExprHasWords e

-- the same of an array's sizes
abbrev pub SizeHasWords : ArraySize → Type 0
SizeHasWords (size.Sized e) = ExprHasWords e
SizeHasWords (size.Rows o e) = ExprIfHasWords o × ExprHasWords e
SizeHasWords _ = Unit {0}

-- the same of the constants of labels
abbrev pub LabelsHaveWords : List Label → Type 0
LabelsHaveWords [] = Unit {0}
LabelsHaveWords (l ∷ ls) = ExprIfHasWords l.value × LabelsHaveWords ls

-- the same of the rows of values of a global
abbrev pub RowsHaveWords : List (List Expr) → Type 0
RowsHaveWords [] = Unit {0}
RowsHaveWords (es ∷ ess) = ExprsHaveWords es × RowsHaveWords ess
