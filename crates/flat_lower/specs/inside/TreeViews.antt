-- The declared typed programs, seen as plain data.
use Rattle.std.specs.Prelude.{ℕ, List, [], ◌∷◌, map, Option, Some, None}
use Rattle.c_tree.specs.declared.Kind.{Kind}
use Rattle.c_tree.specs.declared.TypedExpr.{TypedExpr, TypedExpr-F, fold-TypedExpr}
use Rattle.c_tree.specs.declared.TypedNode.TheOpen.{TypedNode-F}
use Rattle.c_tree.specs.declared.TypedNode.TheOpen as node
use Rattle.c_tree.specs.declared.TypedStmt.{TypedStmt, fold-TypedStmt}
use Rattle.c_tree.specs.declared.TypedForInit.TheOpen.{TypedStmt-F, TypedForInit-F, TypedSection-F}
use Rattle.c_tree.specs.declared.TypedForInit.TheOpen as stmt
use Rattle.c_tree.specs.declared.TypedFunc.{TypedFunc}
use Rattle.c_tree.specs.declared.TypedProgram.{TypedProgram}
use Rattle.flat_lower.specs.inside.Tree.{RowElement, Switch, Sections, NoSections, WithSection}
use Rattle.flat_lower.specs.inside.Tree.{Expr, Number, Name, Element, Call, Unary, Cast, Convert, Bump}
use Rattle.flat_lower.specs.inside.Tree.{Binary, Choice, Assign, Comma, Exprs, NoExprs, WithExpr, Stmt}
use Rattle.flat_lower.specs.inside.Tree.{Declare, Plain, Compound, If, While, Do, For, Break, Continue}
use Rattle.flat_lower.specs.inside.Tree.{Return, Stmts, NoStmts, WithStmt, First, Nothing, FirstOf, Locals}
use Rattle.flat_lower.specs.inside.Tree.{Func, Source}

-- arguments as plain data
abbrev pub exprs_of : List Expr → Exprs
exprs_of [] = NoExprs
exprs_of (e ∷ es) = WithExpr e (exprs_of es)

-- a node waits for its kind
abbrev pub Kindless : Type 0
Kindless = Option Kind → Expr

-- one level of an expression, where its parts are seen so already
abbrev pub node_by : TypedNode-F Kindless Expr → Kindless
node_by (node.Number w) k = Number k w
node_by (node.Name p) k = Name k p
node_by (node.Element p None index) k = Element k p index
node_by (node.Element p (Some row) index) k = RowElement k p row index
node_by (node.Call f args) k = Call k f (exprs_of args)
node_by (node.Unary op e) k = Unary k op e
node_by (node.Cast to e) k = Cast k to e
node_by (node.Convert to e) k = Convert k to e
node_by (node.Bump op e) k = Bump k op e
node_by (node.Binary op l r) k = Binary k op l r
node_by (node.Choice t one other) k = Choice k t one other
node_by (node.Assign op at l r) k = Assign k op at l r
node_by (node.Comma l r) k = Comma k l r

-- an expression from its node
abbrev pub expr_by : TypedExpr-F Kindless Expr → Expr
expr_by e = e.node e.kind

-- an expression as plain data
unfoldable pub expr_of : TypedExpr → Expr
expr_of e = fold-TypedExpr Kindless Expr node_by expr_by e

-- the same where there is one
abbrev pub expr_if : Option TypedExpr → Option Expr
expr_if None = None
expr_if (Some e) = Some (expr_of e)

-- statements as plain data
abbrev pub stmts_of : List Stmt → Stmts
stmts_of [] = NoStmts
stmts_of (s ∷ rest) = WithStmt s (stmts_of rest)

-- an else as plain data
abbrev pub stmts_if : Option Stmt → Stmts
stmts_if None = NoStmts
stmts_if (Some s) = WithStmt s NoStmts

-- a section of a switch
pub record Section : Type 0 where
  -- the word of each case, none for `default`
  pub labels : List (Option ℕ)
  pub body : Stmts

-- sections as plain data
abbrev pub sections_of : List Section → Sections
sections_of [] = NoSections
sections_of (x ∷ rest) = WithSection x.labels x.body (sections_of rest)

-- one level of a statement, of the first part of a for and of a section
abbrev pub stmt_by : TypedStmt-F First Stmt Section → Stmt
stmt_by (stmt.Declare p init) = Declare p (expr_if init)
stmt_by (stmt.Plain e) = Plain (expr_if e)
stmt_by (stmt.Compound all) = Compound (stmts_of all)
stmt_by (stmt.If t one other) = If (expr_of t) one (stmts_if other)
stmt_by (stmt.While t body) = While (expr_of t) body
stmt_by (stmt.Do body t) = Do body (expr_of t)
stmt_by (stmt.For first test post body) = For first (expr_if test) (expr_if post) body
stmt_by (stmt.Switch i t xs) = Switch (expr_of t) (sections_of xs)
stmt_by stmt.Break = Break
stmt_by stmt.Continue = Continue
stmt_by (stmt.Return e) = Return (expr_if e)

-- the first part of a for from its open form
abbrev pub first_by : TypedForInit-F First Stmt Section → First
first_by stmt.Nothing = Nothing
first_by (stmt.First e) = FirstOf (expr_of e)
first_by (stmt.Locals all) = Locals (stmts_of all)

-- a section from its open form
abbrev pub section_by : TypedSection-F First Stmt Section → Section
section_by x = record { labels = x.labels; body = stmts_of x.body }

-- a statement as plain data
unfoldable pub stmt_of : TypedStmt → Stmt
stmt_of s = fold-TypedStmt First Stmt Section first_by stmt_by section_by s

-- a function as plain data
abbrev pub func_of : TypedFunc → Func
func_of f = record {
  result = f.result;
  params = f.params;
  scalars = f.scalars;
  arrays = f.arrays;
  body = stmt_of f.body;
}

-- a program as plain data
abbrev pub source_of : TypedProgram → Source
source_of p = record { globals = p.globals; functions = map func_of p.functions; main = p.main }
