-- The size of a source: each function and each node of its body counts one, a conversion and the
-- name on a left side too, a call three, a switch two, and each section and label of a
-- switch one.
use Rattle.std.specs.Prelude.{ℕ, ◌+◌, List, [], ◌∷◌, Option, Some, None}
use Rattle.flat_lower.specs.inside.Tree.{Expr, Number, Name, Element, Call, Unary, Cast, Convert, Bump}
use Rattle.flat_lower.specs.inside.Tree.{Binary, Choice, Assign, Comma, Exprs, NoExprs, WithExpr, Stmt}
use Rattle.flat_lower.specs.inside.Tree.{Declare, Plain, Compound, If, While, Do, For, Break, Continue}
use Rattle.flat_lower.specs.inside.Tree.{Return, Stmts, NoStmts, WithStmt, First, Nothing, FirstOf, Locals}
use Rattle.flat_lower.specs.inside.Tree.{Func, Source, RowElement, Switch, Sections, NoSections, WithSection}
use Rattle.flat_lower.specs.inside.Sizes.{label_count}

abbrev mutual
  -- the nodes of an expression; a call has two besides its own
  pub expr_nodes : Expr → ℕ
  expr_nodes (Number k w) = 1
  expr_nodes (Name k p) = 1
  expr_nodes (Element k p index) = 1 + expr_nodes index
  expr_nodes (RowElement k p row index) = 1 + (expr_nodes row + expr_nodes index)
  expr_nodes (Call k f args) = 3 + exprs_nodes args
  expr_nodes (Unary k o e) = 1 + expr_nodes e
  expr_nodes (Cast k to e) = 1 + expr_nodes e
  expr_nodes (Convert k to e) = 1 + expr_nodes e
  expr_nodes (Bump k o e) = 1 + expr_nodes e
  expr_nodes (Binary k o l r) = 1 + (expr_nodes l + expr_nodes r)
  expr_nodes (Choice k t one other) = 1 + (expr_nodes t + (expr_nodes one + expr_nodes other))
  expr_nodes (Assign k o at l r) = 1 + (expr_nodes l + expr_nodes r)
  expr_nodes (Comma k l r) = 1 + (expr_nodes l + expr_nodes r)

  -- the nodes of all arguments
  pub exprs_nodes : Exprs → ℕ
  exprs_nodes NoExprs = 0
  exprs_nodes (WithExpr e rest) = expr_nodes e + exprs_nodes rest

-- the nodes of an expression, if there is one
abbrev pub expr_if_nodes : Option Expr → ℕ
expr_if_nodes None = 0
expr_if_nodes (Some e) = expr_nodes e

abbrev mutual
  -- the nodes of a statement, of which each statement and expression inside is one; a switch has one
  -- besides its own
  pub stmt_nodes : Stmt → ℕ
  stmt_nodes (Declare p e) = 1 + expr_if_nodes e
  stmt_nodes (Plain e) = 1 + expr_if_nodes e
  stmt_nodes (Compound all) = 1 + stmts_nodes all
  stmt_nodes (If t one other) = 1 + (expr_nodes t + (stmt_nodes one + stmts_nodes other))
  stmt_nodes (While t body) = 1 + (expr_nodes t + stmt_nodes body)
  stmt_nodes (Do body t) = 1 + (stmt_nodes body + expr_nodes t)
  stmt_nodes (For first test post body) = 1 +
      (first_nodes first + (expr_if_nodes test + (expr_if_nodes post + stmt_nodes body)))
  stmt_nodes (Switch t xs) = 2 + (expr_nodes t + sections_nodes xs)
  stmt_nodes Break = 1
  stmt_nodes Continue = 1
  stmt_nodes (Return e) = 1 + expr_if_nodes e

  -- the nodes of all statements of a list
  pub stmts_nodes : Stmts → ℕ
  stmts_nodes NoStmts = 0
  stmts_nodes (WithStmt s rest) = stmt_nodes s + stmts_nodes rest

  -- the nodes of all sections: each is one besides its labels and its statements
  pub sections_nodes : Sections → ℕ
  sections_nodes NoSections = 0
  sections_nodes (WithSection ls body rest) =
      1 + (label_count ls + (stmts_nodes body + sections_nodes rest))

  -- the nodes of the first part of a `for`
  pub first_nodes : First → ℕ
  first_nodes Nothing = 0
  first_nodes (FirstOf e) = expr_nodes e
  first_nodes (Locals all) = stmts_nodes all

-- the nodes of several functions
abbrev pub funcs_size : List Func → ℕ
funcs_size [] = 0
funcs_size (f ∷ fs) = 1 + stmt_nodes f.body + funcs_size fs

-- the nodes of a program
abbrev pub source_size : Source → ℕ
source_size P = funcs_size P.functions
