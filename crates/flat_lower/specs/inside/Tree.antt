-- Typed programs as plain data, which the lowering and its proof recurse on.
use Rattle.std.specs.Prelude.{ℕ, List, Option}
use Rattle.c_tree.specs.declared.Kind.{Kind}
use Rattle.c_tree.specs.declared.UnaryOp.{UnaryOp}
use Rattle.c_tree.specs.declared.BumpOp.{BumpOp}
use Rattle.c_tree.specs.declared.BinaryOp.{BinaryOp}
use Rattle.c_tree.specs.declared.Place.{Place}
use Rattle.c_tree.specs.declared.Callee.{Callee}
use Rattle.c_tree.specs.declared.Slot.{Slot}
use Rattle.c_tree.specs.declared.TypedArray.{TypedArray}
use Rattle.c_tree.specs.declared.TypedGlobal.{TypedGlobal}

-- each node has its kind, none where it gives no value
mutual
  -- an expression, with the conversions that typing put into it
  pub data Expr : Type 0 where
    Number : (k : Option Kind) (w : ℕ) → Expr
    Name : (k : Option Kind) (p : Place) → Expr
    Element : (k : Option Kind) (p : Place) (index : Expr) → Expr
    -- by two indexes
    RowElement : (k : Option Kind) (p : Place) (row index : Expr) → Expr
    Call : (k : Option Kind) (f : Callee) (args : Exprs) → Expr
    Unary : (k : Option Kind) (op : UnaryOp) (e : Expr) → Expr
    Cast : (k : Option Kind) (to : Kind) (e : Expr) → Expr
    -- a conversion that typing put in
    Convert : (k : Option Kind) (to : Kind) (e : Expr) → Expr
    -- `++` and `--`, in front or behind
    Bump : (k : Option Kind) (op : BumpOp) (e : Expr) → Expr
    Binary : (k : Option Kind) (op : BinaryOp) (left right : Expr) → Expr
    Choice : (k : Option Kind) (test one other : Expr) → Expr
    -- `=` has no operator; a compound one works in the type `at`
    Assign : (k : Option Kind) (op : Option BinaryOp) (at : Kind) (left right : Expr) → Expr
    Comma : (k : Option Kind) (left right : Expr) → Expr

  -- the arguments of a call, from the left
  pub data Exprs : Type 0 where
    NoExprs : Exprs
    WithExpr : (e : Expr) (rest : Exprs) → Exprs

-- the else of an if is a list of at most one statement
mutual
  -- a statement of C, with places in the place of names
  pub data Stmt : Type 0 where
    Declare : (p : Place) (init : Option Expr) → Stmt
    -- an expression statement, or an empty one
    Plain : (e : Option Expr) → Stmt
    Compound : (all : Stmts) → Stmt
    If : (test : Expr) (one : Stmt) (other : Stmts) → Stmt
    While : (test : Expr) (body : Stmt) → Stmt
    Do : (body : Stmt) (test : Expr) → Stmt
    For : (first : First) (test post : Option Expr) (body : Stmt) → Stmt
    Switch : (test : Expr) (sections : Sections) → Stmt
    Break : Stmt
    Continue : Stmt
    Return : (e : Option Expr) → Stmt

  -- statements, from the first on
  pub data Stmts : Type 0 where
    NoStmts : Stmts
    WithStmt : (s : Stmt) (rest : Stmts) → Stmts

  -- the sections of a switch, each with its labels, none for `default`, and its statements
  pub data Sections : Type 0 where
    NoSections : Sections
    WithSection : (labels : List (Option ℕ)) (body : Stmts) (rest : Sections) → Sections

  -- the first part of a for
  pub data First : Type 0 where
    Nothing : First
    FirstOf : (e : Expr) → First
    Locals : (all : Stmts) → First

-- a function as plain data
pub record Func : Type 0 where
  -- none of a void function
  pub result : Option Kind
  -- how many of the scalars are parameters
  pub params : ℕ
  pub scalars : List Slot
  pub arrays : List TypedArray
  pub body : Stmt

-- a program as plain data
pub record Source : Type 0 where
  pub globals : List TypedGlobal
  pub functions : List Func
  -- its place among the functions
  pub main : ℕ

-- the type of the value that an expression gives
abbrev pub kind_of : Expr → Option Kind
kind_of (Number k w) = k
kind_of (Name k p) = k
kind_of (Element k p index) = k
kind_of (RowElement k p row index) = k
kind_of (Call k f args) = k
kind_of (Unary k op e) = k
kind_of (Cast k to e) = k
kind_of (Convert k to e) = k
kind_of (Bump k op e) = k
kind_of (Binary k op left right) = k
kind_of (Choice k test one other) = k
kind_of (Assign k op at left right) = k
kind_of (Comma k left right) = k
