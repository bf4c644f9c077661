-- Beside what is believed of Laws.antt: the words of the grid's laws.
use Rattle.std.specs.Prelude.{◌≡◌, ℕ, ◌+◌, ◌<◌, ◌≤◌, List, [], ◌∷◌, Option, Some, None}
use Rattle.trips_isa.specs.declared.block.Block.{Block}
use Rattle.trips_isa.specs.declared.op.Op.{Op}
use Rattle.commit_flush_spec.specs.Frames.{Frame}
use Rattle.commit_flush_spec.specs.Window.{Window, Event, plays}
use Rattle.operand_net.specs.Tick.{next_of}
use Rattle.grid_cycle_spec.specs.inside.Stations.{far}
use Rattle.grid_cycle_spec.specs.Costs.{latency}
use Rattle.grid_cycle_spec.specs.inside.Costs.{longest}

-- a window comes from another by events, and by nothing else
pub record ByEvents (blocks : List Block) (budget : ℕ) (v w : Window) : Type 0 where
  pub events : List Event
  pub played : w ≡ plays blocks budget events v

-- the number of the first of some frames
abbrev pub first_number : List Frame → Option ℕ
first_number [] = None
first_number (f ∷ fs) = Some f.number

-- the frame of a load, where one is named
abbrev pub frame_named : Option (ℕ × ℕ) → Option ℕ
frame_named None = None
frame_named (Some c) = Some c.0

-- an operation takes from one cycle to the longest latency
pub record TakesTime (op : Op) : Type 0 where
  pub some : 1 ≤ latency op
  pub most : latency op ≤ longest

-- a link on the way to an end stays on the mesh, and brings a parcel nearer by one
pub record IsNearer (at to : ℕ) : Type 0 where
  pub inside : next_of at to < 25
  pub nearer : far (next_of at to) to + 1 ≡ far at to
