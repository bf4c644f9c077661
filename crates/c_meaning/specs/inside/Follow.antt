-- What follows a part of a program, as plain data.
use Rattle.std.specs.Prelude.{ℕ, Bool, List, Option}
use Rattle.c_tree.specs.declared.Kind.{Kind}
use Rattle.c_tree.specs.declared.BinaryOp.{BinaryOp}
use Rattle.c_tree.specs.declared.UnaryOp.{UnaryOp}
use Rattle.c_tree.specs.declared.BumpOp.{BumpOp}
use Rattle.c_tree.specs.declared.Place.{Place}
use Rattle.c_tree.specs.declared.Callee.{Callee}
use Rattle.c_tree.specs.declared.TypedExpr.{TypedExpr}
use Rattle.c_tree.specs.declared.TypedStmt.{TypedStmt}
use Rattle.c_tree.specs.declared.TypedSection.{TypedSection}
use Rattle.c_meaning_spec.specs.declared.Object.{Object}

-- what follows a part, one for each continuation of the definition
pub data Follow : Type 0 where
  FConverting : (to : Kind) → Follow
  FUnary : (op : UnaryOp) (k : Option Kind) → Follow
  FElement : (p : Place) → Follow
  FAfterRow : (p : Place) (index : TypedExpr) → Follow
  FRowElement : (p : Place) (i : ℕ) → Follow
  FArgument : (token : ℕ) (f : Callee) (rest : List TypedExpr) (done : List ℕ) → Follow
  FLeft : (op : BinaryOp) (k : Option Kind) (right : TypedExpr) → Follow
  FRight : (op : BinaryOp) (k : Option Kind) (a : ℕ) → Follow
  FAnd : (right : TypedExpr) → Follow
  FOr : (right : TypedExpr) → Follow
  FTruth : Follow
  FValued : Follow
  FChoice : (one other : TypedExpr) → Follow
  FComma : (right : TypedExpr) → Follow
  FAssignElement : (op : Option BinaryOp) (to : Option Kind) (at : Kind) (p : Place)
      (right : TypedExpr) → Follow
  FAssignAfterRow : (op : Option BinaryOp) (to : Option Kind) (at : Kind) (p : Place)
      (index right : TypedExpr) → Follow
  FAssignRow : (op : Option BinaryOp) (to : Option Kind) (at : Kind) (p : Place) (i : ℕ)
      (right : TypedExpr) → Follow
  FAssigned : (x : Object) → Follow
  FCompounded : (op : BinaryOp) (to : Option Kind) (at : Kind) (x : Object) (old : ℕ) → Follow
  FBumpElement : (op : BumpOp) (k : Option Kind) (p : Place) → Follow
  FBumpAfterRow : (op : BumpOp) (k : Option Kind) (p : Place) (index : TypedExpr) → Follow
  FBumpRow : (op : BumpOp) (k : Option Kind) (p : Place) (i : ℕ) → Follow
  FCaller : (is_main : Bool) (scalars : List (Option ℕ)) (count base room : ℕ) → Follow
  FDropped : Follow
  FInitialised : (i : ℕ) → Follow
  FSequence : (rest : List TypedStmt) → Follow
  FIf : (one : TypedStmt) (other : Option TypedStmt) → Follow
  FThenTurn : (test post : Option TypedExpr) (body : TypedStmt) → Follow
  FLocals : (rest : List TypedStmt) (test post : Option TypedExpr) (body : TypedStmt) → Follow
  FTest : (test post : Option TypedExpr) (body : TypedStmt) → Follow
  FBody : (test post : Option TypedExpr) (body : TypedStmt) → Follow
  FSwitch : (sections : List TypedSection) → Follow
  FSections : (rest : List TypedStmt) → Follow
  FReturning : Follow

-- what waits behind a part: what follows it, the place of the expression that it is, or that of the call whose body it
-- is
pub data Waits : Type 0 where
  WFollow : (f : Follow) → Waits
  WPlace : (token : ℕ) → Waits
  WCall : (token : ℕ) → Waits
