-- Typed trees each of whose numbers is a word of its type, each of whose assignments has an operator that C
-- gives one, and each of whose sections of a switch has a label and a statement. A rule for each node.
use Rattle.std.specs.Prelude.{ℕ, List, [], ◌∷◌, Option, Some, None}
use Rattle.c_tree.specs.TypedTrees.{Node, node_of, Level, Beginning}
use Rattle.c_tree.specs.declared.token.Kind.{Kind}
use Rattle.c_tree.specs.declared.tree.UnaryOp.{UnaryOp}
use Rattle.c_tree.specs.declared.tree.BumpOp.{BumpOp}
use Rattle.c_tree.specs.declared.tree.BinaryOp.{BinaryOp}
use Rattle.c_tree.specs.declared.typed.Place.{Place}
use Rattle.c_tree.specs.declared.typed.Callee.{Callee}
use Rattle.c_tree.specs.declared.typed.TypedExpr.{TypedExpr}
use Rattle.c_tree.specs.declared.typed.TypedNode.TheOpen.{Number, Name, Element, Call}
use Rattle.c_tree.specs.declared.typed.TypedNode.TheOpen.{Unary, Cast, Convert, Bump, Binary}
use Rattle.c_tree.specs.declared.typed.TypedNode.TheOpen.{Choice, Assign, Comma}
use Rattle.c_tree.specs.declared.typed.TypedSection.{TypedSection}
use Rattle.c_tree.specs.declared.typed.TypedStmt.{TypedStmt, out-TypedStmt}
use Rattle.c_tree.specs.declared.typed.TypedForInit.{TypedForInit, out-TypedForInit}
use Rattle.c_tree.specs.declared.typed.TypedForInit.TheOpen.{Declare}
use Rattle.c_tree.specs.declared.typed.TypedForInit.TheOpen.{Plain, Compound, If, While, Do, For}
use Rattle.c_tree.specs.declared.typed.TypedForInit.TheOpen.{Switch, Break, Continue, Return, Nothing}
use Rattle.c_tree.specs.declared.typed.TypedForInit.TheOpen.{First, Locals}
use Rattle.c_tree.specs.declared.typed.TypedGlobal.{TypedGlobal}
use Rattle.c_tree.specs.declared.typed.TypedFunc.{TypedFunc}
use Rattle.c_tree.specs.declared.typed.TypedProgram.{TypedProgram}
use Rattle.c_constant.specs.Kinds.{IsWord}
use Rattle.flat_lower_premises.specs.inside.Words.{AreWordsOf, IsFilled}
use Rattle.flat_lower_premises.specs.inside.Assigners.{IsAssigner}

-- EXPRESSIONS

mutual
  -- the node, of this type, has only words of their types; a number has a type
  pub data NodeHasWords : Option Kind → Node → Type 0 where
    number : {k : Kind} {w : ℕ} → IsWord k w → NodeHasWords (Some k) (Number w)
    name : {r : Option Kind} {p : Place} → NodeHasWords r (Name p)
    element : {r : Option Kind} {p : Place} {i : TypedExpr}
        → NodeHasWords i.kind (node_of i) → NodeHasWords r (Element p None i)
    row_element : {r : Option Kind} {p : Place} {x i : TypedExpr}
        → NodeHasWords x.kind (node_of x) → NodeHasWords i.kind (node_of i)
        → NodeHasWords r (Element p (Some x) i)
    call : {r : Option Kind} {c : Callee} {es : List TypedExpr}
        → ExprsHaveWords es → NodeHasWords r (Call c es)
    operator : {r : Option Kind} {op : UnaryOp} {e : TypedExpr}
        → NodeHasWords e.kind (node_of e) → NodeHasWords r (Unary op e)
    cast : {r : Option Kind} {k : Kind} {e : TypedExpr}
        → NodeHasWords e.kind (node_of e) → NodeHasWords r (Cast k e)
    conversion : {r : Option Kind} {k : Kind} {e : TypedExpr}
        → NodeHasWords e.kind (node_of e) → NodeHasWords r (Convert k e)
    step : {r : Option Kind} {op : BumpOp} {e : TypedExpr}
        → NodeHasWords e.kind (node_of e) → NodeHasWords r (Bump op e)
    operation : {r : Option Kind} {op : BinaryOp} {x y : TypedExpr}
        → NodeHasWords x.kind (node_of x) → NodeHasWords y.kind (node_of y)
        → NodeHasWords r (Binary op x y)
    either : {r : Option Kind} {c x y : TypedExpr}
        → NodeHasWords c.kind (node_of c) → NodeHasWords x.kind (node_of x)
        → NodeHasWords y.kind (node_of y) → NodeHasWords r (Choice c x y)
    assignment : {r : Option Kind} {op : Option BinaryOp} {k : Kind} {x y : TypedExpr}
        → IsAssigner op → NodeHasWords x.kind (node_of x) → NodeHasWords y.kind (node_of y)
        → NodeHasWords r (Assign op k x y)
    sequence : {r : Option Kind} {x y : TypedExpr}
        → NodeHasWords x.kind (node_of x) → NodeHasWords y.kind (node_of y)
        → NodeHasWords r (Comma x y)

  -- the same of all arguments of a call
  pub data ExprsHaveWords : List TypedExpr → Type 0 where
    no_expr : ExprsHaveWords []
    one_expr : {e : TypedExpr} {es : List TypedExpr}
        → NodeHasWords e.kind (node_of e) → ExprsHaveWords es → ExprsHaveWords (e ∷ es)

-- each number in the expression is a word of its type
abbrev pub ExprHasWords : TypedExpr → Type 0
ExprHasWords e = NodeHasWords e.kind (node_of e)

-- the same where there is an expression
abbrev pub ExprIfHasWords : Option TypedExpr → Type 0
ExprIfHasWords None = Unit {0}
ExprIfHasWords (Some e) = ExprHasWords e

-- STATEMENTS

mutual
  -- the same of all expressions in a statement
  pub data LevelHasWords : Level → Type 0 where
    declared : {p : Place} {init : Option TypedExpr}
        → ExprIfHasWords init → LevelHasWords (Declare p init)
    plain : {e : Option TypedExpr} → ExprIfHasWords e → LevelHasWords (Plain e)
    compound : {ss : List TypedStmt} → StmtsHaveWords ss → LevelHasWords (Compound ss)
    choice : {c : TypedExpr} {s : TypedStmt} {other : Option TypedStmt}
        → ExprHasWords c → LevelHasWords (out-TypedStmt s) → ElseHasWords other
        → LevelHasWords (If c s other)
    while_loop : {c : TypedExpr} {s : TypedStmt}
        → ExprHasWords c → LevelHasWords (out-TypedStmt s) → LevelHasWords (While c s)
    do_loop : {c : TypedExpr} {s : TypedStmt}
        → LevelHasWords (out-TypedStmt s) → ExprHasWords c → LevelHasWords (Do s c)
    for_loop : {i : TypedForInit} {c p : Option TypedExpr} {s : TypedStmt}
        → BeginningHasWords (out-TypedForInit i) → ExprIfHasWords c → ExprIfHasWords p
        → LevelHasWords (out-TypedStmt s) → LevelHasWords (For i c p s)
    switch : {n : ℕ} {c : TypedExpr} {xs : List TypedSection}
        → ExprHasWords c → SectionsHaveWords xs → LevelHasWords (Switch n c xs)
    breaks : LevelHasWords Break
    continues : LevelHasWords Continue
    returns : {e : Option TypedExpr} → ExprIfHasWords e → LevelHasWords (Return e)

  -- the same of all statements of a list
  pub data StmtsHaveWords : List TypedStmt → Type 0 where
    no_stmt : StmtsHaveWords []
    one_stmt : {s : TypedStmt} {ss : List TypedStmt}
        → LevelHasWords (out-TypedStmt s) → StmtsHaveWords ss → StmtsHaveWords (s ∷ ss)

  -- the same of all sections of a switch, each of which has a label and a statement
  pub data SectionsHaveWords : List TypedSection → Type 0 where
    no_section : SectionsHaveWords []
    one_section : {x : TypedSection} {xs : List TypedSection}
        → IsFilled x.labels → IsFilled x.body → StmtsHaveWords x.body → SectionsHaveWords xs
        → SectionsHaveWords (x ∷ xs)

  -- the same of the statement of an `else`, if there is one
  pub data ElseHasWords : Option TypedStmt → Type 0 where
    without_else : ElseHasWords None
    with_else : {s : TypedStmt} → LevelHasWords (out-TypedStmt s) → ElseHasWords (Some s)

  -- the same of the first part of a `for`
  pub data BeginningHasWords : Beginning → Type 0 where
    nothing : BeginningHasWords Nothing
    first : {e : TypedExpr} → ExprHasWords e → BeginningHasWords (First e)
    locals : {ss : List TypedStmt} → StmtsHaveWords ss → BeginningHasWords (Locals ss)

-- the same of a statement
abbrev pub StmtHasWords : TypedStmt → Type 0
StmtHasWords s = LevelHasWords (out-TypedStmt s)

-- PROGRAMS

-- each value that a global is given is a word of its type
abbrev pub GlobalsHaveWords : List TypedGlobal → Type 0
GlobalsHaveWords [] = Unit {0}
GlobalsHaveWords (g ∷ gs) = AreWordsOf g.kind g.init × GlobalsHaveWords gs

-- each number in a body is a word of its type
abbrev pub FunctionsHaveWords : List TypedFunc → Type 0
FunctionsHaveWords [] = Unit {0}
FunctionsHaveWords (f ∷ fs) = StmtHasWords f.body × FunctionsHaveWords fs

-- each value that a global is given, and each number in a function, is a word of its type
pub record ProgramHasWords (P : TypedProgram) : Type 0 where
  pub globals : GlobalsHaveWords P.globals
  pub functions : FunctionsHaveWords P.functions
