-- The steps of a frame that the next event looks for by number, in one table.
use Rattle.std.specs.Prelude.{ℕ, ◌+◌, ◌*◌, Bool, ◌&&◌, Option, Some, None, is_none}
use Rattle.commit_flush_spec.specs.Frames.{Frame, at, numbers, token_places}
use Rattle.commit_flush_spec.specs.Older.{Older}
use Rattle.commit_flush_spec.specs.Dataflow.{can_read, can_fire, can_deliver}
use Rattle.commit_flush_spec.specs.Memory.{can_load, can_store}
use Rattle.commit_flush_spec.specs.Window as window
use Rattle.frame_state.specs.declared.event.Event.{Event}
use Rattle.frame_state.specs.Events.{as_event}
use Rattle.commit_flush_spec.specs.inside.NextEvent.{is_done, lowest, event_of, places, slots, reads, stores_came}
use Rattle.commit_flush.specs.declared.step.Step.{Step}
use Rattle.commit_flush.specs.declared.step.Step.TheVariants.{Token, Firing, Read, Store, Load}

-- how many numbers a step has
abbrev pub count_of : Step → ℕ
count_of Token = places
count_of Firing = slots
count_of Read = reads
count_of Store = numbers
count_of Load = numbers

-- the event that takes the step of number k at frame n
abbrev pub event_at : Step → ℕ → ℕ → window.Event
event_at Token n k = window.Deliver (n * token_places + k)
event_at Firing n k = window.Fire n k
event_at Read n k = window.Read n k
event_at Store n k = window.Store n k
event_at Load n k = window.Load n k

-- whether the step of number k is one that the next event may take
abbrev pub is_next : Step → Older → Frame → ℕ → Bool
is_next Token o f k = is_done (can_deliver k o f)
is_next Firing o f k = is_done (can_fire k o f)
is_next Read o f k = is_done (can_read k o f)
is_next Store o f k = is_done (can_store k o f) && is_none (at f.stores k)
is_next Load o f k = is_done (can_load k o f) && stores_came f k

-- the event of the lowest number of a step that may be taken
abbrev pub next_at : Step → Older → Frame → Option window.Event
next_at t o f = event_of (event_at t f.number) (lowest (is_next t o f) (count_of t) 0)

-- an event, if there is one, in the window's words
abbrev pub as_next : Option Event → Option window.Event
as_next None = None
as_next (Some e) = Some (as_event e)
