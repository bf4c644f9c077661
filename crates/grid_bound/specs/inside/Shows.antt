-- The oldest frame behind a part of a cycle, and what the lane then sees of it.
use Rattle.std.specs.Prelude.{◌≡◌, ◌⊎◌, ℕ, suc, ◌+◌, ◌*◌, ◌<◌, false, List, ◌∷◌, length, Option, Some, None}
use Rattle.std.specs.Prelude.{slice_index_or}
use Rattle.trips_isa.specs.declared.causes.TrapCause.{TrapCause}
use Rattle.trips_isa.specs.declared.run.Stepped.TheVariants.{Trap}
use Rattle.operand_net.specs.declared.parcel.Stand.TheVariants.{Nowhere}
use Rattle.commit_flush_spec.specs.Frames.{Frame}
use Rattle.grid_cycle_spec.specs.Grid.{Grid, Fetching}
use Rattle.grid_bound.specs.inside.Course.{Course}
use Rattle.grid_bound.specs.inside.Lane.{Front}
use Rattle.grid_bound.specs.inside.Seen.{front_of}

-- f is still the oldest frame of h, with the same block and the same stores resolved, and is seen so by this course
pub record Shows {W : Type 0} (c : Course) (f : Frame) (h : Grid W) (seen : Front) : Type 0 where
  -- the frame as it is in h, where it is still the oldest
  pub frame : Frame
  pub younger : List Frame
  pub frames : h.window.frames ≡ frame ∷ younger
  pub number : frame.number ≡ f.number
  pub code : frame.code ≡ f.code
  -- no store of it has come meanwhile, so that its table stays
  pub stores : frame.stores ≡ f.stores
  -- it is not sealed
  pub runs : frame.sealed ≡ false
  -- what the lane sees of it by this course
  pub front : front_of c h frame ≡ seen

-- the run has trapped
abbrev pub Traps : {W : Type 0} → Grid W → Type 0
Traps m = (c : TrapCause) × (m.window.over ≡ Trap c)

-- the block of the oldest frame has been committed, or the run has trapped
abbrev pub Commits : {W : Type 0} → Grid W → Grid W → Type 0
Commits g m = Traps m
    ⊎ (length m.window.state.trace ≡ suc (length g.window.state.trace))

-- no parcel stands in the places of a read that is not answered
abbrev pub QuietReads : {W : Type 0} → Grid W → Frame → Type 0
QuietReads h e = (r : ℕ) → r < 32 → slice_index_or e.reads r false ≡ false
    → (h.parcels e.number (256 + 2 * r) ≡ Nowhere) × (h.parcels e.number (suc (256 + 2 * r)) ≡ Nowhere)

-- a fetch under way is of the committed next block
abbrev pub IsDue : {W : Type 0} → Grid W → Option Fetching → Type 0
IsDue g None = Unit {0}
IsDue g (Some x) = x.block ≡ g.window.state.next
