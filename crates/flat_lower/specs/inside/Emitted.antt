-- What emitters do: statements are added to a list, and their code is that of a node.
use Rattle.std.specs.Prelude.{◌≡◌, ℕ, ◌+◌, List, [], ◌∷◌, map, Option, Some, None}
use Rattle.c_tree.specs.declared.TypedExpr.{TypedExpr}
use Rattle.c_tree.specs.declared.TypedStmt.{TypedStmt}
use Rattle.ir_forms.specs.declared.flat.FlatStmt.{FlatStmt}
use Rattle.ir_forms.specs.inside.FlatCode.{Code, Then}
use Rattle.ir_forms.specs.inside.FlatViews.{code_of}
use Rattle.flat_lower.specs.inside.Tree.{Stmt, First, NoStmts, WithStmt, Expr, Number, Name, Element, Call}
use Rattle.flat_lower.specs.inside.Tree.{Unary, Cast, Convert, Bump, Binary, Choice, Assign, Comma, Exprs}
use Rattle.flat_lower.specs.inside.Tree.{Stmts, RowElement, Sections}
use Rattle.c_tree.specs.declared.TypedSection.{TypedSection}
use Rattle.c_tree.specs.declared.TypedForInit.{TypedForInit, fold-TypedForInit}
use Rattle.flat_lower.specs.inside.TreeViews.{expr_of, exprs_of, stmt_of, stmts_of, stmt_by, first_by}
use Rattle.flat_lower.specs.inside.TreeViews.{Section, sections_of, section_by}
use Rattle.flat_lower.specs.declared.side.Side.{Side}
use Rattle.flat_lower.specs.declared.side.Side.TheVariants as side

-- the code between two lists of statements
pub record Adds (old new : List FlatStmt) (x : Code) : Type 0 where
  -- the new list does what the old one did and then x
  pub is : code_of new ≡ Then (code_of old) x

-- arguments and statements, seen as plain data
abbrev pub args_of : List TypedExpr → Exprs
args_of args = exprs_of (map expr_of args)

-- the statements of a compound
abbrev pub block_of : List TypedStmt → Stmts
block_of all = stmts_of (map stmt_of all)

-- what stands behind an else
abbrev pub other_of : Option TypedStmt → Stmts
other_of None = NoStmts
other_of (Some s) = WithStmt (stmt_of s) NoStmts

-- the first part of a for
unfoldable pub first_of : TypedForInit → First
first_of i = fold-TypedForInit First Stmt Section first_by stmt_by section_by i

-- a section of a switch
abbrev pub section_of : TypedSection → Section
section_of x = record { labels = x.labels; body = block_of x.body }

-- the sections of a switch
abbrev pub sections_in : List TypedSection → Sections
sections_in xs = sections_of (map section_of xs)

-- what a left side is
abbrev pub side_in : Expr → Side
side_in (Name k p) = side.Name p
side_in (Element k p index) = side.Element p
side_in (RowElement k p row index) = side.Element p
side_in (Number k w) = side.Neither
side_in (Call k f args) = side.Neither
side_in (Unary k o e) = side.Neither
side_in (Cast k to e) = side.Neither
side_in (Convert k to e) = side.Neither
side_in (Bump k o e) = side.Neither
side_in (Binary k o l r) = side.Neither
side_in (Choice k t one other) = side.Neither
side_in (Assign k o at l r) = side.Neither
side_in (Comma k l r) = side.Neither

-- an expression of that side, which stands for all
abbrev pub shape : Side → Expr
shape (side.Name p) = Name None p
shape (side.Element p) = Element None p (Number None 0)
shape side.Neither = Number None 0

-- each of some lengths, added up from a start
abbrev pub starts_from : ℕ → List ℕ → List ℕ
starts_from at [] = []
starts_from at (b ∷ bs) = at ∷ starts_from (at + b) bs
