-- What the evaluator's values stand for.
use Rattle.std.specs.Prelude.{List, ◌++◌, map, reverse, Option, Some, None}
use Rattle.std.specs.Borrow.{Bor}
use Rattle.c_tree.specs.declared.TypedExpr.{TypedExpr}
use Rattle.c_tree.specs.declared.TypedStmt.{TypedStmt}
use Rattle.c_meaning_spec.specs.State.{State}
use Rattle.c_meaning_spec.specs.Task.{Of, Run, Turn}
use Rattle.c_meaning_spec.specs.Task as meant
use Rattle.c_meaning_spec.specs.Statement.{bodies}
use Rattle.c_meaning.specs.inside.Follow.{Follow, FConverting, FUnary, FElement, FArgument, FLeft, FRight}
use Rattle.c_meaning.specs.inside.Follow.{FAnd, FOr, FTruth, FValued, FChoice, FComma, FAssignElement}
use Rattle.c_meaning.specs.inside.Follow.{FAssigned, FCompounded, FBumpElement, FCaller, FDropped}
use Rattle.c_meaning.specs.inside.Follow.{FInitialised, FSequence, FIf, FThenTurn, FLocals, FTest, FBody}
use Rattle.c_meaning.specs.inside.Follow.{FAfterRow, FRowElement, FAssignAfterRow, FAssignRow}
use Rattle.c_meaning.specs.inside.Follow.{FBumpAfterRow, FBumpRow, FSwitch, FSections}
use Rattle.c_meaning.specs.inside.Follow.{FReturning}
use Rattle.c_meaning.specs.inside.Follow.{Waits, WFollow, WPlace, WCall}
use Rattle.c_meaning.specs.inside.Ahead.{Next, ToDo, Given, Ended}
use Rattle.c_meaning.specs.declared.store.Store.{Store}
use Rattle.c_meaning.specs.declared.frame.Task.{Task}
use Rattle.c_meaning.specs.declared.frame.Task.TheVariants as task
use Rattle.c_meaning.specs.declared.frame.Operand.{Operand}
use Rattle.c_meaning.specs.declared.frame.Operand.TheVariants as operand
use Rattle.c_meaning.specs.declared.frame.Stage.{Stage}
use Rattle.c_meaning.specs.declared.frame.Stage.TheVariants as stage
use Rattle.c_meaning.specs.declared.frame.Frame.{Frame}
use Rattle.c_meaning.specs.declared.frame.Frame.TheVariants as frame
use Rattle.c_meaning.specs.declared.frame.Waiting.{Waiting}
use Rattle.c_meaning.specs.declared.frame.Waiting.TheVariants as waiting
use Rattle.c_meaning.specs.declared.frame.Move.{Move}
use Rattle.c_meaning.specs.declared.frame.Move.TheVariants as move

-- what the evaluator holds, as a state of the definition
abbrev pub view : Store → State
view s = record {
  stock = s.stock;
  input = s.input.now;
  output = s.output.items;
  scalars = s.scalars;
  arrays = s.arrays;
  rows = s.rows.items;
  base = s.base;
  room = s.room;
  told = record { at = s.told_at; calls = s.told_calls.items };
}

-- what stands behind a reference, if there is one
abbrev pub behind : {A : Type 0} → Option (Bor A) → Option A
behind None = None
behind (Some x) = Some x.now

-- a task, as one of the definition
abbrev pub task_of : Task → meant.Task
task_of (task.Of e) = Of e.now
task_of (task.Run st) = Run st.now
task_of (task.Turn l) = Turn (behind l.test) (behind l.post) l.body.now

-- a frame of an operand, as what follows it
abbrev pub follow_operand : Operand → TypedExpr → Follow
follow_operand (operand.Right op k) right = FLeft op k right
follow_operand operand.OfAnd right = FAnd right
follow_operand operand.OfOr right = FOr right
follow_operand operand.OfComma right = FComma right
follow_operand (operand.Stored op to at p) right = FAssignElement op to at p right
follow_operand (operand.StoredRow op to at p i) right = FAssignRow op to at p i right
follow_operand (operand.AfterRow p) index = FAfterRow p index
follow_operand (operand.BumpAfterRow op k p) index = FBumpAfterRow op k p index

-- a frame of a loop, by its stage
abbrev pub follow_turn : Stage → List TypedStmt → Option TypedExpr → Option TypedExpr → TypedStmt
    → Follow
follow_turn stage.Begins rest test post body = FLocals rest test post body
follow_turn stage.Turns rest test post body = FThenTurn test post body
follow_turn stage.Tests rest test post body = FTest test post body
follow_turn stage.Ran rest test post body = FBody test post body

-- a frame, as what follows a part
abbrev pub follow : Frame → Follow
follow (frame.Converting to) = FConverting to
follow (frame.Unary op k) = FUnary op k
follow (frame.Element p) = FElement p
follow (frame.RowElement p i) = FRowElement p i
follow (frame.Argument token f rest done) = FArgument token f rest.now done
follow (frame.Operand o right) = follow_operand o right.now
follow (frame.Operated op k a) = FRight op k a
follow frame.Truth = FTruth
follow frame.Valued = FValued
follow (frame.Choice one other) = FChoice one.now other.now
follow (frame.Assigned x) = FAssigned x
follow (frame.Compounded op to at x old) = FCompounded op to at x old
follow (frame.BumpElement op k p) = FBumpElement op k p
follow (frame.BumpRow op k p i) = FBumpRow op k p i
follow (frame.StoredAfterRow op to at p index right) =
    FAssignAfterRow op to at p index.now right.now
follow (frame.Caller is_main scalars c) =
    FCaller is_main scalars c.count c.base c.room
follow frame.Dropped = FDropped
follow (frame.Initialised i) = FInitialised i
follow (frame.Sequence rest) = FSequence rest.now
follow (frame.If one other) = FIf one.now (behind other)
follow (frame.Turning stage rest l) = follow_turn stage rest.now (behind l.test)
    (behind l.post) l.body.now
follow (frame.Switch xs) = FSwitch xs.now
follow (frame.Sections rest behind) = FSections (rest.now ++ bodies behind.now)
follow frame.Returning = FReturning

-- what waits, as that of the definition
abbrev pub waits : Waiting → Waits
waits (waiting.Follows f) = WFollow (follow f)
waits (waiting.Place token) = WPlace token
waits (waiting.Call token) = WCall token

-- what waits, the topmost first
unfoldable pub frames : List Waiting → List Waits
frames xs = reverse (map waits xs)

-- a move, as what is to be done next
abbrev pub next : Move → Next
next (move.Do t) = ToDo (task_of t)
next (move.Give v) = Given v
next (move.End why) = Ended why
