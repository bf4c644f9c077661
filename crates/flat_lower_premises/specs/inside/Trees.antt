-- Trees each of whose numbers is a word of its type, each of whose assignments has an operator that C gives
-- one, and each of whose sections of a switch has a label and a statement. A rule for each node.
use Rattle.std.specs.Prelude.{ℕ, List, [], ◌∷◌, Option, Some, None}
use Rattle.c_tree.specs.inside.Trees.{Level, level_of, Beginning}
use Rattle.c_tree.specs.declared.token.Kind.{Kind}
use Rattle.c_tree.specs.declared.tree.ArraySize.{ArraySize}
use Rattle.c_tree.specs.declared.tree.Expr.{Expr}
use Rattle.c_tree.specs.declared.tree.Section.{Section, out-Section}
use Rattle.c_tree.specs.declared.tree.Stmt.{Stmt}
use Rattle.c_tree.specs.declared.tree.ForInit.{ForInit, out-ForInit}
use Rattle.c_tree.specs.declared.tree.ForInit.TheOpen.{Declare, Plain}
use Rattle.c_tree.specs.declared.tree.ForInit.TheOpen.{Compound, If, While, Do, For, Switch, Break}
use Rattle.c_tree.specs.declared.tree.ForInit.TheOpen.{Continue, Return, Nothing, First, Locals}
use Rattle.c_tree.specs.declared.tree.Top.{Top}
use Rattle.c_tree.specs.declared.tree.TopNode.{TopNode}
use Rattle.c_tree.specs.declared.tree.TopNode.TheVariants as top
use Rattle.flat_lower_premises.specs.inside.Words.{IsFilled}
use Rattle.flat_lower_premises.specs.inside.ExpressionWords.{ExprHasWords, ExprIfHasWords, SizeHasWords}
use Rattle.flat_lower_premises.specs.inside.ExpressionWords.{LabelsHaveWords, RowsHaveWords}

-- STATEMENTS

mutual
  -- the same of all expressions in a statement
  pub data LevelHasWords : Level → Type 0 where
    declared : {k : Kind} {w : List ℕ} {a : ArraySize} {init : Option Expr}
        → SizeHasWords a → ExprIfHasWords init → LevelHasWords (Declare k w a init)
    plain : {e : Option Expr} → ExprIfHasWords e → LevelHasWords (Plain e)
    compound : {ss : List Stmt} → StmtsHaveWords ss → LevelHasWords (Compound ss)
    choice : {c : Expr} {s : Stmt} {other : Option Stmt}
        → ExprHasWords c → LevelHasWords (level_of s) → ElseHasWords other
        → LevelHasWords (If c s other)
    while_loop : {c : Expr} {s : Stmt}
        → ExprHasWords c → LevelHasWords (level_of s) → LevelHasWords (While c s)
    do_loop : {c : Expr} {s : Stmt}
        → LevelHasWords (level_of s) → ExprHasWords c → LevelHasWords (Do s c)
    for_loop : {i : ForInit} {c p : Option Expr} {s : Stmt}
        → BeginningHasWords (out-ForInit i) → ExprIfHasWords c → ExprIfHasWords p
        → LevelHasWords (level_of s) → LevelHasWords (For i c p s)
    switch : {c : Expr} {xs : List Section}
        → ExprHasWords c → SectionsHaveWords xs → LevelHasWords (Switch c xs)
    breaks : LevelHasWords Break
    continues : LevelHasWords Continue
    returns : {e : Option Expr} → ExprIfHasWords e → LevelHasWords (Return e)

  -- the same of all statements of a list
  pub data StmtsHaveWords : List Stmt → Type 0 where
    no_stmt : StmtsHaveWords []
    one_stmt : {s : Stmt} {ss : List Stmt}
        → LevelHasWords (level_of s) → StmtsHaveWords ss → StmtsHaveWords (s ∷ ss)

  -- the same of all sections of a switch, each of which has a label and a statement
  pub data SectionsHaveWords : List Section → Type 0 where
    no_section : SectionsHaveWords []
    one_section : {x : Section} {xs : List Section}
        → IsFilled (out-Section x).labels → LabelsHaveWords (out-Section x).labels
        → IsFilled (out-Section x).body → StmtsHaveWords (out-Section x).body
        → SectionsHaveWords xs → SectionsHaveWords (x ∷ xs)

  -- the same of the statement of an `else`, if there is one
  pub data ElseHasWords : Option Stmt → Type 0 where
    without_else : ElseHasWords None
    with_else : {s : Stmt} → LevelHasWords (level_of s) → ElseHasWords (Some s)

  -- the same of the first part of a `for`
  pub data BeginningHasWords : Beginning → Type 0 where
    nothing : BeginningHasWords Nothing
    first : {e : Expr} → ExprHasWords e → BeginningHasWords (First e)
    locals : {ss : List Stmt} → StmtsHaveWords ss → BeginningHasWords (Locals ss)

-- the same of a statement
abbrev pub StmtHasWords : Stmt → Type 0
StmtHasWords s = LevelHasWords (level_of s)

-- the same where there is a statement
abbrev pub StmtIfHasWords : Option Stmt → Type 0
StmtIfHasWords None = Unit {0}
StmtIfHasWords (Some s) = StmtHasWords s

-- UNITS

-- an array parameter's sizes are not looked at
abbrev pub TopHasWords : TopNode → Type 0
TopHasWords top.Include = Unit {0}
TopHasWords (top.Global k w a init) = SizeHasWords a × RowsHaveWords init
TopHasWords (top.Func r w ps body) = StmtIfHasWords body

-- the same of all items
abbrev pub UnitHasWords : List Top → Type 0
UnitHasWords [] = Unit {0}
UnitHasWords (t ∷ ts) = TopHasWords t.node × UnitHasWords ts
