-- The nodes and statements of a program: what one pass through it, without a loop's turn or a call,
-- can cost.
use Rattle.std.specs.Prelude.{ℕ, ◌+◌, ◌≤◌, List, [], ◌∷◌, Option, Some, None, slice_get, ◌≡◌}
use Rattle.flat_lower.specs.inside.Tree.{Expr, Number, Name, Element, Call, Unary, Cast, Convert, Bump}
use Rattle.flat_lower.specs.inside.Tree.{Binary, Choice, Assign, Comma, Exprs, NoExprs, WithExpr, Stmt}
use Rattle.flat_lower.specs.inside.Tree.{Declare, Plain, Compound, If, While, Do, For, Break, Continue}
use Rattle.flat_lower.specs.inside.Tree.{Return, Stmts, NoStmts, WithStmt, First, Nothing, FirstOf, Locals}
use Rattle.flat_lower.specs.inside.Tree.{Func, Source, RowElement, Switch, Sections, NoSections, WithSection}

-- a conversion that typing adds costs nothing, and of a left side only an index counts
abbrev mutual
  -- what a pass through an expression costs: each node counts one, and a call one more
  pub nodes : Expr → ℕ
  nodes (Number k w) = 1
  nodes (Name k p) = 1
  nodes (Element k p index) = 1 + nodes index
  nodes (RowElement k p row index) = 1 + (nodes row + nodes index)
  nodes (Call k f args) = 2 + all_nodes args
  nodes (Unary k o e) = 1 + nodes e
  nodes (Cast k to e) = 1 + nodes e
  nodes (Convert k to e) = nodes e
  nodes (Bump k o e) = 1 + left_nodes e
  nodes (Binary k o l r) = 1 + (nodes l + nodes r)
  nodes (Choice k t one other) = 1 + (nodes t + (nodes one + nodes other))
  nodes (Assign k o at l r) = 1 + (left_nodes l + nodes r)
  nodes (Comma k l r) = 1 + (nodes l + nodes r)

  -- the nodes of the index of a left side
  pub left_nodes : Expr → ℕ
  left_nodes (Element k p index) = nodes index
  left_nodes (RowElement k p row index) = nodes row + nodes index
  left_nodes _ = 0

  -- the nodes of all arguments
  pub all_nodes : Exprs → ℕ
  all_nodes NoExprs = 0
  all_nodes (WithExpr e rest) = nodes e + all_nodes rest

-- the nodes of an expression, if there is one
abbrev pub nodes_if : Option Expr → ℕ
nodes_if None = 0
nodes_if (Some e) = nodes e

-- the labels of a section, of which each that is compared costs a step
abbrev pub label_count : List (Option ℕ) → ℕ
label_count [] = 0
label_count (l ∷ ls) = 1 + label_count ls

abbrev mutual
  -- the statements and nodes of a statement, those inside it too
  pub size_of : Stmt → ℕ
  size_of (Declare p e) = 1 + nodes_if e
  size_of (Plain e) = 1 + nodes_if e
  size_of (Compound all) = 1 + size_of_all all
  size_of (If t one other) = 1 + (nodes t + (size_of one + size_of_all other))
  size_of (While t body) = 1 + (nodes t + size_of body)
  size_of (Do body t) = 1 + (size_of body + nodes t)
  size_of (For first test post body) = 1 +
      (size_of_first first + (nodes_if test + (nodes_if post + size_of body)))
  size_of (Switch t xs) = 1 + (nodes t + size_of_sections xs)
  size_of Break = 1
  size_of Continue = 1
  size_of (Return e) = 1 + nodes_if e

  -- the size of all statements of a list
  pub size_of_all : Stmts → ℕ
  size_of_all NoStmts = 0
  size_of_all (WithStmt s rest) = size_of s + size_of_all rest

  -- the size of all sections, with their labels
  pub size_of_sections : Sections → ℕ
  size_of_sections NoSections = 0
  size_of_sections (WithSection ls body rest) =
      label_count ls + (size_of_all body + size_of_sections rest)

  -- the size of the first part of a `for`
  pub size_of_first : First → ℕ
  size_of_first Nothing = 0
  size_of_first (FirstOf e) = nodes e
  size_of_first (Locals all) = size_of_all all

-- no function's body is larger, and a call has a step besides
abbrev pub IsMost : Source → ℕ → Type 0
IsMost P most = (n : ℕ) (f : Func) → slice_get P.functions n ≡ Some f → 1 + size_of f.body ≤ most
