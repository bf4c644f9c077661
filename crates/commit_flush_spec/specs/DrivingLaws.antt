-- The words of the laws of progress.
use Rattle.std.specs.Prelude.{ℕ, ◌/◌, ◌==◌, Bool, false}
use Rattle.commit_flush_spec.specs.Frames.{token_places}
use Rattle.commit_flush_spec.specs.Window.{Event}
use Rattle.commit_flush_spec.specs.Window as event

-- whether an event is a Read, a Fire, a Deliver, a Load, a Store or an Exit of the frame of number n
abbrev pub is_step_of : ℕ → Event → Bool
is_step_of n (event.Read m r) = m == n
is_step_of n (event.Fire m s) = m == n
is_step_of n (event.Deliver t) = t / token_places == n
is_step_of n (event.Load m k) = m == n
is_step_of n (event.Store m k) = m == n
is_step_of n (event.Exit m) = m == n
is_step_of n _ = false
