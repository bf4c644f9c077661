-- Typed programs that are lowered: what typing gives of each node, and temporaries that suffice.
use Rattle.std.specs.Prelude.{◌≡◌, ℕ, zero, suc, ◌+◌, ◌^◌, ◌<◌, ◌≤◌, true, false, List, [], ◌∷◌, length, take}
use Rattle.std.specs.Prelude.{All, Option, Some, None, slice_get}
use Rattle.c_tree.specs.Limits.{most_need, most_scalars}
use Rattle.c_tree.specs.declared.Kind.{Kind}
use Rattle.c_tree.specs.declared.Kind.TheVariants.{Int, Long}
use Rattle.c_tree.specs.declared.UnaryOp.{UnaryOp}
use Rattle.c_tree.specs.declared.UnaryOp.TheVariants.{Not}
use Rattle.c_tree.specs.declared.BinaryOp.{BinaryOp}
use Rattle.c_tree.specs.declared.BinaryOp.TheVariants.{LogicalOr, LogicalAnd, ShiftLeft, ShiftRight}
use Rattle.c_tree.specs.declared.Place.{Place}
use Rattle.c_tree.specs.declared.Place.TheVariants.{Global, Scalar, Array}
use Rattle.c_tree.specs.declared.Callee.{Callee}
use Rattle.c_tree.specs.declared.Callee.TheVariants as callee
use Rattle.c_tree.specs.declared.Slot.{Slot}
use Rattle.c_tree.specs.declared.Slot.TheVariants as slot
use Rattle.flat_lower.specs.inside.Tree.{RowElement, Switch, Sections, NoSections, WithSection}
use Rattle.c_tree.specs.declared.TypedArray.{TypedArray}
use Rattle.c_tree.specs.declared.TypedGlobal.{TypedGlobal}
use Rattle.c_constant.specs.Operation.{result_of, unary_result}
use Rattle.c_meaning_spec.specs.Eval.{length_of}
use Rattle.trips_isa.specs.Stores.{data_size}
use Rattle.ir_forms.specs.inside.Frames.{frames_at, frame_limit}
use Rattle.flat_lower.specs.inside.Tree.{Expr, Number, Name, Element, Call, Unary, Cast, Convert, Bump}
use Rattle.flat_lower.specs.inside.Tree.{Binary, Choice, Assign, Comma, Exprs, NoExprs, WithExpr, Stmt}
use Rattle.flat_lower.specs.inside.Tree.{Declare, Plain, Compound, If, While, Do, For, Break, Continue}
use Rattle.flat_lower.specs.inside.Tree.{Return, Stmts, NoStmts, WithStmt, First, Nothing, FirstOf, Locals}
use Rattle.flat_lower.specs.inside.Tree.{Func, Source, kind_of}
use Rattle.c_constant.specs.Kinds.{IsWord}
use Rattle.flat_lower.specs.inside.Kinds.{IsArithmetic}
use Rattle.flat_lower.specs.inside.Expressions.{operand_at, right_at}
use Rattle.flat_lower.specs.inside.Statements.{globals_image}
use Rattle.flat_lower.specs.inside.Switches.{in_switch, section_count}
use Rattle.flat_lower.specs.inside.FitsSwitches.{FitsLabels, free_sections, IsFilled, IsLabelled, IsLooped}
use Rattle.flat_lower.specs.declared.around.Around.{Around}
use Rattle.flat_lower.specs.declared.around.Around.TheVariants as around

-- what names and calls stand for in a function
pub record Scope : Type 0 where
  pub globals : List TypedGlobal
  pub functions : List Func
  -- the parameters first, each a value or an array's address
  pub scalars : List Slot
  pub arrays : List TypedArray

-- NAMES

-- a global, its type and its sizes
pub record GlobalIs (c : Scope) (g : ℕ) (k : Kind) (length row : Option ℕ) : Type 0 where
  pub global : TypedGlobal
  pub found : slice_get c.globals g ≡ Some global
  pub kind : global.kind ≡ k
  -- how many elements it has, those of all rows, where it is an array
  pub long : global.length ≡ length
  -- how many elements a row has, where it has two sizes
  pub wide : global.row ≡ row

-- the function has a local array of this number, type and second size
pub record ArrayIs (c : Scope) (a : ℕ) (k : Kind) (row : Option ℕ) : Type 0 where
  pub array : TypedArray
  pub found : slice_get c.arrays a ≡ Some array
  pub kind : array.kind ≡ k
  -- how many elements a row has, where it has two sizes
  pub wide : array.row ≡ row

-- a name stands for an object of the type
abbrev pub FitsName : Scope → Kind → Place → Type 0
FitsName c k (Global g) = GlobalIs c g k None None
FitsName c k (Scalar i) = slice_get c.scalars i ≡ Some (slot.Scalar k)
FitsName c k (Array a) = ⊥

-- an array whose elements are of a type, with its second size if it has two
abbrev pub FitsWhole : Scope → Kind → Option ℕ → Place → Type 0
FitsWhole c k q (Global g) = (n : ℕ) × GlobalIs c g k (Some n) q
FitsWhole c k q (Scalar i) = slice_get c.scalars i ≡ Some (slot.Address k q)
FitsWhole c k q (Array a) = ArrayIs c a k q

-- EXPRESSIONS

-- a type in which an operator with one operand is done
abbrev pub IsOperand : UnaryOp → Kind → Type 0
IsOperand Not k = Unit {0}
IsOperand o k = IsArithmetic k

-- the count of a shift may be of another type
abbrev pub FitsRight : BinaryOp → Kind → Option Kind → Type 0
FitsRight ShiftLeft k j = Unit {0}
FitsRight ShiftRight k j = Unit {0}
FitsRight o k j = j ≡ Some k

-- an operation on both operands, and its type
abbrev pub FitsStrict : BinaryOp → Kind → Option Kind → Kind → Type 0
FitsStrict o j r k = IsArithmetic j × FitsRight o j r × (k ≡ result_of o j)

-- the types of two operands and of the result
abbrev pub FitsBinary : BinaryOp → Option Kind → Option Kind → Kind → Type 0
FitsBinary LogicalOr l r k = k ≡ Int
FitsBinary LogicalAnd l r k = k ≡ Int
FitsBinary o None r k = ⊥
FitsBinary o (Some j) r k = FitsStrict o j r k

-- the type of one operand and of the result
abbrev pub FitsUnary : UnaryOp → Option Kind → Kind → Type 0
FitsUnary o None k = ⊥
FitsUnary o (Some j) k = IsOperand o j × (k ≡ unary_result o j)

-- a compound assignment's operation gives a value of its own type
abbrev pub FitsCompound : Option BinaryOp → Kind → Kind → Option Kind → Type 0
FitsCompound None at k r = r ≡ Some k
FitsCompound (Some LogicalOr) at k r = ⊥
FitsCompound (Some LogicalAnd) at k r = ⊥
FitsCompound (Some o) at k r = FitsStrict o at r at

-- there is a type, and it is as wanted
abbrev pub FitsKind : Option Kind → (Kind → Type 0) → Type 0
FitsKind None f = ⊥
FitsKind (Some k) f = f k

-- a number is a word of its type
abbrev pub FitsNumber : ℕ → Option Kind → ℕ → Type 0
FitsNumber d None w = ⊥
FitsNumber d (Some k) w = (d < most_need) × IsWord k w

-- a name whose value is taken
abbrev pub FitsNamed : Scope → ℕ → Option Kind → Place → Type 0
FitsNamed c d None p = ⊥
FitsNamed c d (Some k) p = (d < most_need) × FitsName c k p

-- an element whose value is taken
abbrev pub FitsElement : Scope → Option Kind → Place → Type 0
FitsElement c None p = ⊥
FitsElement c (Some k) p = FitsWhole c k None p

-- an element by two indexes
abbrev pub FitsRowElement : Scope → Option Kind → Place → Type 0
FitsRowElement c None p = ⊥
FitsRowElement c (Some k) p = (q : ℕ) × FitsWhole c k (Some q) p

-- a call, where `args` says that the arguments fit some parameters, and `one` that they are one
-- value; what ends the run has one long as its parameter, and gives no value
abbrev pub FitsCall : Scope → Option Kind → Callee → (List Slot → Type 0) → Type 0 → Exprs → Type 0
FitsCall c k (callee.Func f) args one es =
    (g : Func) × (slice_get c.functions f ≡ Some g) × (k ≡ g.result)
    × args (take g.params g.scalars)
FitsCall c k callee.GetChar args one es = (k ≡ Some Int) × (es ≡ NoExprs)
FitsCall c k callee.PutChar args one es = (k ≡ Some Int) × one
FitsCall c k callee.Exit args one es = (k ≡ None) × args (slot.Scalar Long ∷ [])

-- an argument for a parameter, where `fits` says that it is an expression
abbrev pub FitsArg : Scope → ℕ → Slot → Type 0 → Expr → Type 0
FitsArg c d (slot.Scalar k) fits e = fits × (kind_of e ≡ Some k)
FitsArg c d (slot.Address k q) fits (Name j p) =
    (d < most_need) × (j ≡ Some k) × FitsWhole c k q p
FitsArg c d (slot.Address k q) fits _ = ⊥

-- the temporaries from d on
abbrev mutual
  -- the types of its parts are those that typing gives, and its need is at most what is left
  pub FitsExpr : Scope → ℕ → Expr → Type 0
  FitsExpr c d (Number k w) = FitsNumber d k w
  FitsExpr c d (Name k p) = FitsNamed c d k p
  FitsExpr c d (Element k p index) = FitsElement c k p × FitsExpr c d index
  FitsExpr c d (RowElement k p row index) =
      FitsRowElement c k p × FitsExpr c d row × FitsExpr c (suc d) index
  FitsExpr c d (Call k f args) =
      (d < most_need) × FitsCall c k f (λ slots. FitsArgs c d slots args) (FitsOne c d args) args
  FitsExpr c d (Unary k o e) = FitsExpr c d e × FitsKind k (FitsUnary o (kind_of e))
  FitsExpr c d (Cast k to e) = FitsExpr c d e × (k ≡ Some to)
  FitsExpr c d (Convert k to e) = FitsExpr c d e × (k ≡ Some to)
  FitsExpr c d (Bump k o e) = FitsLeft c d k e
  FitsExpr c d (Binary k o l r) =
      FitsExpr c d l × FitsExpr c (operand_at o d) r
      × FitsKind k (FitsBinary o (kind_of l) (kind_of r))
  FitsExpr c d (Choice k t one other) =
      FitsExpr c d t × FitsExpr c d one × FitsExpr c d other × (kind_of one ≡ k)
      × (kind_of other ≡ k)
  FitsExpr c d (Assign k o at l r) =
      FitsLeft c d k l × FitsExpr c (right_at o d l) r
      × FitsKind k (λ k. FitsCompound o at k (kind_of r))
  FitsExpr c d (Comma k l r) = FitsExpr c d l × FitsExpr c d r × (kind_of r ≡ k)

  -- a left side has the type of what it is a part of
  pub FitsLeft : Scope → ℕ → Option Kind → Expr → Type 0
  FitsLeft c d k (Name j p) = (j ≡ k) × FitsNamed c d k p
  FitsLeft c d k (Element j p index) = (j ≡ k) × FitsElement c k p × FitsExpr c d index
  FitsLeft c d k (RowElement j p row index) =
      (j ≡ k) × FitsRowElement c k p × FitsExpr c d row × FitsExpr c (suc d) index
  FitsLeft c d k _ = ⊥

  -- the one argument of `putchar`
  pub FitsOne : Scope → ℕ → Exprs → Type 0
  FitsOne c d NoExprs = ⊥
  FitsOne c d (WithExpr e rest) = FitsExpr c d e × (rest ≡ NoExprs)

  -- argument after argument for the parameters, each in the next temporary
  pub FitsArgs : Scope → ℕ → List Slot → Exprs → Type 0
  FitsArgs c d [] NoExprs = Unit {0}
  FitsArgs c d [] (WithExpr e rest) = ⊥
  FitsArgs c d (s ∷ ss) NoExprs = ⊥
  FitsArgs c d (s ∷ ss) (WithExpr e rest) =
      FitsArg c d s (FitsExpr c d e) e × FitsArgs c (suc d) ss rest

-- STATEMENTS

-- an expression, if there is one
abbrev pub FitsExprIf : Scope → Option Expr → Type 0
FitsExprIf c None = Unit {0}
FitsExprIf c (Some e) = FitsExpr c 0 e

-- a declaration of a scalar or of an array
abbrev pub FitsDeclare : Scope → Place → Option Expr → Type 0
FitsDeclare c (Scalar i) (Some e) =
    (k : Kind) × (slice_get c.scalars i ≡ Some (slot.Scalar k)) × FitsExpr c 0 e
    × (kind_of e ≡ Some k)
FitsDeclare c p e = Unit {0}

-- a value is returned exactly where the function has a type
abbrev pub FitsReturn : Scope → Option Kind → Option Expr → Type 0
FitsReturn c None None = Unit {0}
FitsReturn c None (Some e) = ⊥
FitsReturn c (Some k) None = ⊥
FitsReturn c (Some k) (Some e) = FitsExpr c 0 e × (kind_of e ≡ Some k)

-- by what stands around a statement
abbrev mutual
  -- of one statement, in a function that gives this type or nothing
  pub FitsStmt : Scope → Option Kind → Around → Stmt → Type 0
  FitsStmt c k x (Declare p e) = FitsDeclare c p e
  FitsStmt c k x (Plain e) = FitsExprIf c e
  FitsStmt c k x (Compound all) = FitsStmts c k x all
  FitsStmt c k x (If t one other) = FitsExpr c 0 t × FitsStmt c k x one × FitsStmts c k x other
  FitsStmt c k x (While t body) = FitsExpr c 0 t × FitsStmt c k around.Loop body
  FitsStmt c k x (Do body t) = FitsStmt c k around.Loop body × FitsExpr c 0 t
  FitsStmt c k x (For first test post body) =
      FitsFirst c k x first × FitsExprIf c test × FitsExprIf c post × FitsStmt c k around.Loop body
  FitsStmt c k x (Switch t xs) =
      FitsExpr c 0 t × FitsSections c k (in_switch x) (kind_of t) xs × (free_sections xs ≤ 1)
      × (section_count xs < 2 ^ 64)
  FitsStmt c k x Break = Unit {0}
  FitsStmt c k x Continue = IsLooped x
  FitsStmt c k x (Return e) = FitsReturn c k e

  -- of statements in order, which have the same around them
  pub FitsStmts : Scope → Option Kind → Around → Stmts → Type 0
  FitsStmts c k x NoStmts = Unit {0}
  FitsStmts c k x (WithStmt s rest) = FitsStmt c k x s × FitsStmts c k x rest

  -- each section has a label and a statement
  pub FitsSections : Scope → Option Kind → Around → Option Kind → Sections → Type 0
  FitsSections c k x j NoSections = Unit {0}
  FitsSections c k x j (WithSection ls body rest) =
      IsLabelled ls × FitsLabels j ls × IsFilled body × FitsStmts c k x body
      × FitsSections c k x j rest

  -- of the first part of a for, which does not stand in its loop
  pub FitsFirst : Scope → Option Kind → Around → First → Type 0
  FitsFirst c k x Nothing = Unit {0}
  FitsFirst c k x (FirstOf e) = FitsExpr c 0 e
  FitsFirst c k x (Locals all) = FitsStmts c k x all

-- PROGRAMS

-- what the names in a function stand for
abbrev pub scope_of : Source → Func → Scope
scope_of P f = record {
  globals = P.globals;
  functions = P.functions;
  scalars = f.scalars;
  arrays = f.arrays;
}

-- a function that may be lowered
pub record FitsFunc (P : Source) (f : Func) : Type 0 where
  -- so that each has a number below the temporaries'
  pub scalars : length f.scalars ≤ most_scalars
  pub params : f.params ≤ length f.scalars
  pub body : FitsStmt (scope_of P f) f.result around.Nowhere f.body

-- a global's values are words of its type, and no more than it has room for
pub record FitsGlobal (g : TypedGlobal) : Type 0 where
  pub words : All (IsWord g.kind) g.init
  -- what is not given begins as zero
  pub few : length g.init ≤ length_of g.length

-- main returns an int and has no parameters
pub record FitsMain (P : Source) : Type 0 where
  pub main : Func
  -- by the number that the program says
  pub found : slice_get P.functions P.main ≡ Some main
  pub result : main.result ≡ Some Int
  pub params : main.params ≡ 0

-- a program that may be lowered
pub record FitsSource (P : Source) : Type 0 where
  pub each : (n : ℕ) (f : Func) → slice_get P.functions n ≡ Some f → FitsFunc P f
  pub globals : All FitsGlobal P.globals
  pub main : FitsMain P
  -- the globals and all frames lie inside data memory
  pub room : frames_at (globals_image P.globals) + frame_limit ≤ data_size
