-- Beside what is believed of Events.antt: events, causes and answers of the code, in the window's words.
use Rattle.std.specs.Prelude.{Bool, true, false}
use Rattle.frame_state.specs.declared.event.Happened.{Happened}
use Rattle.commit_flush_spec.specs.Causes as causes

-- whether an event happens
abbrev pub is_done : causes.Happened → Bool
is_done causes.Done = true
is_done (causes.NotNow c) = false
