-- How many nodes a unit has: each function, each statement and each expression counts one, a call
-- three, as its name and its parentheses, and another pair of parentheses nothing. A switch counts two,
-- and each of its sections and labels one. What typing computes once and for all, as an array's size, the
-- values of a global or a case label's constant, is not counted.
use Rattle.std.specs.Prelude.{ℕ, ◌+◌, List, [], ◌∷◌, length, map, Option, Some, None}
use Rattle.c_tree.specs.declared.tree.Expr.{Expr, Expr-F, fold-Expr}
use Rattle.c_tree.specs.declared.tree.ExprNode.TheOpen.{ExprNode-F, Number, Name, Element, Call}
use Rattle.c_tree.specs.declared.tree.ExprNode.TheOpen.{Group, Unary, Cast, Bump, Binary, Choice}
use Rattle.c_tree.specs.declared.tree.ExprNode.TheOpen.{Assign, Comma}
use Rattle.c_tree.specs.declared.tree.Section.{Section, fold-Section}
use Rattle.c_tree.specs.declared.tree.Stmt.{Stmt, Stmt-F, fold-Stmt}
use Rattle.c_tree.specs.declared.tree.ForInit.{ForInit, fold-ForInit}
use Rattle.c_tree.specs.declared.tree.ForInit.TheOpen.{StmtNode-F, ForInit-F, Section-F, Declare, Plain}
use Rattle.c_tree.specs.declared.tree.ForInit.TheOpen.{Compound, If, While, Do, For, Switch, Break}
use Rattle.c_tree.specs.declared.tree.ForInit.TheOpen.{Continue, Return, Nothing, First, Locals}
use Rattle.c_tree.specs.declared.tree.Top.{Top}
use Rattle.c_tree.specs.declared.tree.TopNode.{TopNode}
use Rattle.c_tree.specs.declared.tree.TopNode.TheVariants as top

-- several counts, and one that may be left out
abbrev pub total : List ℕ → ℕ
total [] = 0
total (n ∷ ns) = n + total ns

-- a count that may be left out
abbrev pub total_if : Option ℕ → ℕ
total_if None = 0
total_if (Some n) = n

-- one level of an expression, where its parts are counted already
abbrev pub level_nodes : ExprNode-F ℕ ℕ → ℕ
level_nodes (Number v k) = 1
level_nodes (Name w) = 1
level_nodes (Element w o i) = 1 + (total_if o + i)
level_nodes (Call w es) = 3 + total es
level_nodes (Group e) = e
level_nodes (Unary op e) = 1 + e
level_nodes (Cast k e) = 1 + e
level_nodes (Bump op e) = 1 + e
level_nodes (Binary op x y) = 1 + (x + y)
level_nodes (Choice c x y) = 1 + (c + (x + y))
level_nodes (Assign op x y) = 1 + (x + y)
level_nodes (Comma x y) = 1 + (x + y)

-- an expression has the nodes of its level
abbrev pub of_level : Expr-F ℕ ℕ → ℕ
of_level e = e.node

-- the nodes of an expression
unfoldable pub expr_nodes : Expr → ℕ
expr_nodes e = fold-Expr ℕ ℕ level_nodes of_level e

-- those of several
abbrev pub exprs_nodes : List Expr → ℕ
exprs_nodes es = total (map expr_nodes es)

-- those of one that may be left out
abbrev pub expr_if_nodes : Option Expr → ℕ
expr_if_nodes None = 0
expr_if_nodes (Some e) = expr_nodes e

-- one level of a statement, and of the first part of a `for`
abbrev pub stmt_level_nodes : StmtNode-F ℕ ℕ ℕ ℕ → ℕ
stmt_level_nodes (Declare k w size init) = 1 + expr_if_nodes init
stmt_level_nodes (Plain e) = 1 + expr_if_nodes e
stmt_level_nodes (Compound ss) = 1 + total ss
stmt_level_nodes (If c s other) = 1 + (expr_nodes c + (s + total_if other))
stmt_level_nodes (While c s) = 1 + (expr_nodes c + s)
stmt_level_nodes (Do s c) = 1 + (s + expr_nodes c)
stmt_level_nodes (For i c p s) = 1 + (i + (expr_if_nodes c + (expr_if_nodes p + s)))
stmt_level_nodes (Switch c xs) = 2 + (expr_nodes c + total xs)
stmt_level_nodes Break = 1
stmt_level_nodes Continue = 1
stmt_level_nodes (Return e) = 1 + expr_if_nodes e

-- one level of the first part of a `for`
abbrev pub first_level_nodes : ForInit-F ℕ ℕ ℕ ℕ → ℕ
first_level_nodes Nothing = 0
first_level_nodes (First e) = expr_nodes e
first_level_nodes (Locals ss) = total ss

-- one level of a section of a switch
abbrev pub section_level_nodes : Section-F ℕ ℕ ℕ ℕ → ℕ
section_level_nodes x = 1 + (length x.labels + total x.body)

-- a statement has the nodes of its level
abbrev pub of_stmt_level : Stmt-F ℕ ℕ ℕ ℕ → ℕ
of_stmt_level s = s.node

-- the nodes of a statement
unfoldable pub stmt_nodes : Stmt → ℕ
stmt_nodes s = fold-Stmt ℕ ℕ ℕ ℕ first_level_nodes stmt_level_nodes section_level_nodes of_stmt_level s

-- those of the first part of a `for`
unfoldable pub first_nodes : ForInit → ℕ
first_nodes i = fold-ForInit ℕ ℕ ℕ ℕ first_level_nodes stmt_level_nodes section_level_nodes of_stmt_level i

-- those of a section of a switch
unfoldable pub section_nodes : Section → ℕ
section_nodes x = fold-Section ℕ ℕ ℕ ℕ first_level_nodes stmt_level_nodes section_level_nodes of_stmt_level x

-- those of several sections
abbrev pub sections_nodes : List Section → ℕ
sections_nodes xs = total (map section_nodes xs)

-- those of several statements
abbrev pub stmts_nodes : List Stmt → ℕ
stmts_nodes ss = total (map stmt_nodes ss)

-- those of one that may be left out
abbrev pub stmt_if_nodes : Option Stmt → ℕ
stmt_if_nodes None = 0
stmt_if_nodes (Some s) = stmt_nodes s

-- a function that has a body, with its body
abbrev pub top_nodes : TopNode → ℕ
top_nodes (top.Func r w ps (Some s)) = 1 + stmt_nodes s
top_nodes _ = 0

-- the nodes of a unit's functions
abbrev pub unit_nodes : List Top → ℕ
unit_nodes [] = 0
unit_nodes (t ∷ ts) = top_nodes t.node + unit_nodes ts
