-- What a part comes to that is evaluated at once, by recursion on its tree.
use Rattle.std.specs.Prelude.{◌≡◌, ℕ, map, Option, Some, None}
use Rattle.c_tree.specs.declared.TypedProgram.{TypedProgram}
use Rattle.c_meaning_spec.specs.declared.Signal.TheVariants.{Nothing, Value, Breaks, Continues, Returns}
use Rattle.c_meaning_spec.specs.declared.Signal.{Signal}
use Rattle.c_meaning_spec.specs.State.{Result, Go, Over}
use Rattle.c_meaning_spec.specs.Task.{Task, Of, Run, Turn, Parts}
use Rattle.c_meaning_spec.specs.Telling.{placed, through, calling, telling}
use Rattle.c_meaning.specs.inside.Ahead.{ahead_next, unwind_on}
use Rattle.c_meaning.specs.inside.View.{behind, view, waits, frames, next}
use Rattle.c_meaning.specs.declared.store.Store.{Store}
use Rattle.c_meaning.specs.declared.frame.Loop.{Loop}
use Rattle.c_meaning.specs.declared.frame.Move.{Move}
use Rattle.c_meaning.specs.declared.machine.Machine.{Machine}
use Rattle.c_meaning.specs.declared.direct.Stop.{Stop}
use Rattle.c_meaning.specs.declared.direct.Stop.TheVariants as stop
use Rattle.c_meaning.specs.declared.direct.Ran.{Ran}
use Rattle.c_meaning.specs.declared.direct.Ran.TheVariants as ran

-- a task that is left, and then what the frames say that are to follow it
abbrev pub rest_told : TypedProgram → Task → Store → Result
rest_told P t m = unwind_on P (map waits m.pending.items) (telling P t (view m))

-- what a part means that was not evaluated to its end, or that gave no value to the frames; of want of memory
-- nothing is said
abbrev pub stop_told : TypedProgram → Stop → Store → Result → Result
stop_told P (stop.Fails why) m r = Over why (view m)
stop_told P (stop.AtExpr e) m r = rest_told P (Of e.now) m
stop_told P (stop.AtStmt st) m r = rest_told P (Run st.now) m
stop_told P stop.Gave m r = unwind_on P (map waits m.pending.items) (Go Nothing (view m))
stop_told P stop.Memory m r = r

-- the same of an expression whose place is not told yet
abbrev pub placed_told : TypedProgram → ℕ → Stop → Store → Result → Result
placed_told P token stop.Memory m r = r
placed_told P token (stop.Fails why) m r = placed token (Over why (view m))
placed_told P token (stop.AtExpr e) m r = placed token (rest_told P (Of e.now) m)
placed_told P token (stop.AtStmt st) m r = placed token (rest_told P (Run st.now) m)
placed_told P token stop.Gave m r = placed token (unwind_on P (map waits m.pending.items) (Go Nothing (view m)))

-- what an expression means, by what it came to
abbrev pub value_told : TypedProgram → Option ℕ → Store → Result → Result
value_told P (Some w) m r = Go (Value w) (view m)
value_told P None m r = stop_told P m.stop m r

-- the same where its place is not told yet
abbrev pub value_placed : TypedProgram → ℕ → Option ℕ → Store → Result → Result
value_placed P token (Some w) m r = Go (Value w) (view m)
value_placed P token None m r = placed_told P token m.stop m r

-- what a statement means, by what it came to
abbrev pub ran_told : TypedProgram → Ran → Store → Result → Result
ran_told P ran.Nothing m r = Go Nothing (view m)
ran_told P ran.Breaks m r = Go Breaks (view m)
ran_told P ran.Continues m r = Go Continues (view m)
ran_told P ran.Returns m r = Go (Returns m.returned) (view m)
ran_told P ran.Stops m r = stop_told P m.stop m r

-- the signal of a statement that was run to its end
abbrev pub signal_of : Ran → Option ℕ → Signal
signal_of ran.Nothing w = Nothing
signal_of ran.Continues w = Continues
signal_of ran.Returns w = Returns w
signal_of _ w = Breaks

-- what a turn of a loop means: where it continues, the next turn is due
abbrev pub turned_told : TypedProgram → Loop → Ran → Store → Result → Result
turned_told P l ran.Continues m r = telling P (Turn (behind l.test) (behind l.post) l.body.now) (view m)
turned_told P l x m r = ran_told P x m r

-- a part stopped that means this
abbrev pub Stopped : TypedProgram → Result → Store → Type 0
Stopped P r m = stop_told P m.stop m r ≡ r

-- an expression stopped, whose place is not told yet, that means this
abbrev pub StoppedAt : TypedProgram → ℕ → Result → Store → Type 0
StoppedAt P token r m = placed_told P token m.stop m r ≡ r

-- an expression, whose place is not told yet, came to what it means
abbrev pub ValuesAt : TypedProgram → ℕ → Result → Store → Option ℕ → Type 0
ValuesAt P token r m x = value_placed P token x m r ≡ r

-- an expression came to what it means
abbrev pub Values : TypedProgram → Result → Store → Option ℕ → Type 0
Values P r m x = value_told P x m r ≡ r

-- a statement came to what it means
abbrev pub Runs : TypedProgram → Result → Store → Ran → Type 0
Runs P r m x = ran_told P x m r ≡ r

-- a turn of a loop came to what it means
abbrev pub Turned : TypedProgram → Loop → Result → Store → Ran → Type 0
Turned P l r m x = turned_told P l x m r ≡ r

-- what is to be done next, before what waits then, is this before what waited there
abbrev pub Leads : TypedProgram → Result → Machine → Machine → Move → Type 0
Leads P r old new m =
    ahead_next P (next m) (frames new.stack.items) (view new.store) ≡ unwind_on P (frames old.stack.items) r

-- what evaluates the parts of a call: the body of what is called at a place stands in the call; that of main, which is
-- called at none, does not
abbrev pub parts_at : TypedProgram → Option ℕ → Parts
parts_at P None = telling P
parts_at P (Some token) = calling token (telling P)

-- what a body comes to that is called at a place, or at none
abbrev pub through_if : Option ℕ → Result → Result
through_if None r = r
through_if (Some token) r = through token r
