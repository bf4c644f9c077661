-- What stands beside turns, flushes and events that flush.
use Rattle.std.specs.Prelude.{ℕ, zero, suc, ◌+◌, ◌==◌, cond, List, [], ◌∷◌, ◌++◌, Option, Some, None}
use Rattle.trips_isa.specs.declared.block.Block.{Block}
use Rattle.commit_flush_spec.specs.Frames.{Frame}
use Rattle.commit_flush_spec.specs.Window.{Event, happens}
use Rattle.grid_cycle_spec.specs.Grid.{Grid, Fetching}
use Rattle.grid_cycle_spec.specs.Acting.{act, gone}
use Rattle.grid_cycle_spec.specs.Choosing.{each}
use Rattle.grid_events.specs.Notes.{Why, Note, GivesUp, Flushes}

-- beside `each`: the notes of the first n stations, each at the grid that those before it left
abbrev pub of_each : {A : Type 0} → (ℕ → A → A) → (ℕ → A → List Note) → ℕ → A → List Note
of_each turn notes zero g = []
of_each turn notes (suc n) g = of_each turn notes n g ++ notes n (each turn n g)

-- beside `with_frame`: what is noted of the frame of a number, where it is in flight
abbrev pub of_frame : ℕ → (Frame → List Note) → List Frame → List Note
of_frame n notes [] = []
of_frame n notes (f ∷ fs) = cond (f.number == n) (notes f) (of_frame n notes fs)

-- some frames are flushed, the eldest first
abbrev pub flushes : Why → List Frame → List Note
flushes why [] = []
flushes why (f ∷ fs) = Flushes f.number why ∷ flushes why fs

-- the fetch that was under way before and is not behind
abbrev pub gives_up : Option Fetching → Option Fetching → List Note
gives_up None after = []
gives_up (Some f) None = GivesUp f.block ∷ []
gives_up (Some f) (Some k) = []

-- beside `act`: the event by its own note, then what its flush takes along
abbrev pub acted : {W : Type 0} → Note → Why → List Block → ℕ → Event → Grid W → List Note
acted note why blocks budget e g = note ∷ (flushes why (gone g.window (happens blocks budget e g.window))
    ++ gives_up g.fetching (act blocks budget e g).fetching)
