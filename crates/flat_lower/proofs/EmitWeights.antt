-- Counts of trees, which fall from a node to its parts.
use Rattle.std.proofs.Common.{ℕ, suc, ◌+◌, List}
use Rattle.c_tree.specs.declared.TypedExpr.{TypedExpr}
use Rattle.flat_lower.specs.inside.Tree.{Expr, Number, Name, Element, Call, Unary, Cast, Convert, Bump}
use Rattle.flat_lower.specs.inside.Tree.{RowElement}
use Rattle.flat_lower.specs.inside.Tree.{Binary, Choice, Assign, Comma, Exprs, NoExprs, WithExpr}
use Rattle.flat_lower.specs.inside.TreeViews.{expr_of}
use Rattle.flat_lower.specs.inside.Emitted.{args_of}

abbrev mutual
  -- the nodes of an expression
  pub nodes : Expr → ℕ
  nodes (Number k w) = 1
  nodes (Name k p) = 1
  nodes (Element k p index) = suc (nodes index)
  nodes (RowElement k p row index) = suc (nodes row + nodes index)
  nodes (Call k f args) = suc (all_nodes args)
  nodes (Unary k op e) = suc (nodes e)
  nodes (Cast k to e) = suc (nodes e)
  nodes (Convert k to e) = suc (nodes e)
  nodes (Bump k op e) = suc (nodes e)
  nodes (Binary k op l r) = suc (nodes l + nodes r)
  nodes (Choice k t one other) = suc (nodes t + (nodes one + nodes other))
  nodes (Assign k op at l r) = suc (nodes l + nodes r)
  nodes (Comma k l r) = suc (nodes l + nodes r)

  pub all_nodes : Exprs → ℕ
  all_nodes NoExprs = 0
  all_nodes (WithExpr e rest) = nodes e + all_nodes rest

-- the nodes in a typed expression
abbrev pub count : TypedExpr → ℕ
count e = nodes (expr_of e)

-- the nodes in some arguments
abbrev pub count_all : List TypedExpr → ℕ
count_all args = all_nodes (args_of args)
