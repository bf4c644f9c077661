-- The window driven: it is given its next event until there is none.
use Rattle.std.specs.Prelude.{ℕ, zero, suc, List, Option, Some, None}
use Rattle.trips_isa.specs.declared.block.Block.{Block}
use Rattle.commit_flush_spec.specs.Window.{Window, Event, happens}
use Rattle.commit_flush_spec.specs.inside.NextEvent.{next_event}
use Rattle.commit_flush_spec.specs.inside.Work.{work}

-- the window after an event, if there is one
abbrev pub given : List Block → ℕ → Option Event → Window → Window
given blocks budget None w = w
given blocks budget (Some e) w = happens blocks budget e w

-- the window after its next event, n times
abbrev pub drives : List Block → ℕ → ℕ → Window → Window
drives blocks budget zero w = w
drives blocks budget (suc n) w = drives blocks budget n (given blocks budget (next_event budget w) w)

-- the window driven to its end
abbrev pub driven : List Block → ℕ → Window → Window
driven blocks budget w = drives blocks budget (work budget w) w
