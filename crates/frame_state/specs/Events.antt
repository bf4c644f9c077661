-- Events, causes and answers of the code, in the window's words.
use Rattle.std.specs.Prelude.{List, map}
use Rattle.frame_state.specs.declared.event.Event.{Event}
use Rattle.frame_state.specs.declared.event.Event.TheVariants as code
use Rattle.frame_state.specs.declared.event.Cause.{Cause}
use Rattle.frame_state.specs.declared.event.Cause.TheVariants as cause
use Rattle.frame_state.specs.declared.event.Happened.{Happened}
use Rattle.frame_state.specs.declared.event.Happened.TheVariants as happened
use Rattle.commit_flush_spec.specs.Causes as causes
use Rattle.commit_flush_spec.specs.Window as window

-- what may happen
abbrev pub as_event : Event → window.Event
as_event (code.Fetch k) = window.Fetch k
as_event (code.Read n r) = window.Read n r
as_event (code.Fire n s) = window.Fire n s
as_event (code.Deliver t) = window.Deliver t
as_event (code.Load n m) = window.Load n m
as_event (code.Store n m) = window.Store n m
as_event (code.Exit n) = window.Exit n
as_event (code.Seal n) = window.Seal n
as_event (code.Flush n) = window.Flush n
as_event code.Commit = window.Commit

-- why an event does not happen
abbrev pub as_cause : Cause → causes.Cause
as_cause cause.Over = causes.Over
as_cause cause.NoFrame = causes.NoFrame
as_cause cause.NoBlock = causes.NoBlock
as_cause cause.Worn = causes.Worn
as_cause cause.Serial = causes.Serial
as_cause cause.Wrong = causes.Wrong
as_cause cause.NoRead = causes.NoRead
as_cause cause.NotYet = causes.NotYet
as_cause cause.NoInst = causes.NoInst
as_cause cause.NotReady = causes.NotReady
as_cause cause.NoToken = causes.NoToken
as_cause cause.NoRequest = causes.NoRequest
as_cause cause.NoExit = causes.NoExit
as_cause cause.Missing = causes.Missing
as_cause cause.Unsealed = causes.Unsealed
as_cause cause.Spent = causes.Spent

-- what an event is answered
abbrev pub as_happened : Happened → causes.Happened
as_happened happened.Done = causes.Done
as_happened (happened.NotNow c) = causes.NotNow (as_cause c)

-- events one after another
abbrev pub as_events : List Event → List window.Event
as_events es = map as_event es
