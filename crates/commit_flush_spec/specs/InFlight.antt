-- The window as plain data, and the events that change more than one frame: Fetch and Commit.
use Rattle.std.specs.Prelude.{ℕ, zero, suc, ◌+◌, ◌-◌, ◌^◌, ◌==◌, Bool, false, cond, not, ◌||◌, nat_le}
use Rattle.std.specs.Prelude.{List, [], ◌∷◌, ◌++◌, length, Option, Some, None, slice_get, slice_set}
use Rattle.std.specs.Prelude.{slice_index, is_none}
use Rattle.trips_isa.specs.declared.block.Block.{Block}
use Rattle.trips_isa.specs.declared.run.Stepped.{Stepped}
use Rattle.trips_isa.specs.declared.run.Stepped.TheVariants.{Went, Trap}
use Rattle.trips_isa.specs.Outcomes.{Outcome, Comes, Faults, unless}
use Rattle.trips_isa.specs.Machine.{State, apply}
use Rattle.commit_flush_spec.specs.Frames.{Frame, fresh}
use Rattle.commit_flush_spec.specs.Older.{Older, after, after_all, committed, follows}
use Rattle.commit_flush_spec.specs.Causes.{NoFrame, NoBlock, Worn, Serial, Wrong, Unsealed, Spent}
use Rattle.commit_flush_spec.specs.Causes.{Happened, judged}
use Rattle.commit_flush_spec.specs.Ends.{outputs, cause_held}

-- the committed state, whether and how the run has ended, the generation of each of the eight frames,
-- and the frames in flight, the oldest first
pub record Window : Type 0 where
  pub state : State
  pub over : Stepped
  pub generations : List ℕ
  pub frames : List Frame

-- the eight frames, each in its first generation
abbrev pub unstarted : List ℕ
unstarted = 0 ∷ 0 ∷ 0 ∷ 0 ∷ 0 ∷ 0 ∷ 0 ∷ 0 ∷ []

-- no frame in flight
abbrev pub opened : State → Window
opened s = record { state = s; over = Went; generations = unstarted; frames = [] }

-- one frame ------------------------------------------------------------------------------------

-- what `can` says of the frame of a number, and `none` where no frame in flight has it
abbrev pub on_frame : Happened → (Older → Frame → Happened) → Older → List Frame → ℕ → Happened
on_frame none can o [] n = none
on_frame none can o (f ∷ fs) n = cond (f.number == n) (can o f) (on_frame none can (after f o) fs n)

-- the frame of a number, and those behind it, changed by what it sees
abbrev pub change : (Older → Frame → List Frame → List Frame) → Older → List Frame → ℕ → List Frame
change does o [] n = []
change does o (f ∷ fs) n = cond (f.number == n) (does o f fs) (f ∷ change does (after f o) fs n)

-- a change of the frame alone
abbrev pub alone : (Older → Frame → Frame) → Older → Frame → List Frame → List Frame
alone does o f fs = does o f ∷ fs

-- the frame goes, and those behind it
abbrev pub flush : Older → Frame → List Frame → List Frame
flush o f fs = []

-- fetch ----------------------------------------------------------------------------------------

-- whether a frame in flight has number n
abbrev pub in_flight : ℕ → List Frame → Bool
in_flight n [] = false
in_flight n (f ∷ fs) = (f.number == n) || in_flight n fs

-- the lowest of k numbers from n on that no frame in flight has
abbrev pub lowest_empty : ℕ → ℕ → List Frame → Option ℕ
lowest_empty zero n fs = None
lowest_empty (suc k) n fs = cond (in_flight n fs) (lowest_empty k (suc n) fs) (Some n)

-- whether the generation of a number is at its last value
abbrev pub is_worn : List ℕ → Option ℕ → Bool
is_worn generations None = false
is_worn generations (Some n) = slice_index generations n == 2 ^ 64 - 1

-- why block k is not fetched
abbrev pub can_fetch : List Block → ℕ → Window → Happened
can_fetch blocks k w =
    let youngest : Older = after_all w.frames (committed w.state) in
    judged (
    (is_none (lowest_empty 8 0 w.frames), NoFrame) ∷ (is_none (slice_get blocks k), NoBlock)
    ∷ (is_worn w.generations (lowest_empty 8 0 w.frames), Worn) ∷ (youngest.serial, Serial)
    ∷ (not (follows youngest.known k), Wrong) ∷ [])

-- the window with block k in the frame of a number, as the youngest
abbrev pub fetched : ℕ → Option ℕ → Option Block → Window → Window
fetched k None b w = w
fetched k (Some n) None w = w
fetched k (Some n) (Some b) w = record w {
  generations = slice_set w.generations n (slice_index w.generations n + 1);
  frames = w.frames ++ fresh n k b ∷ [];
}

-- commit ---------------------------------------------------------------------------------------

-- whether there is an oldest frame, and it is sealed
abbrev pub is_sealed : List Frame → Bool
is_sealed [] = false
is_sealed (f ∷ fs) = f.sealed

-- why the oldest frame does not commit
abbrev pub can_commit : ℕ → Window → Happened
can_commit budget w = judged (
    (not (is_sealed w.frames), Unsealed) ∷ (nat_le budget (length w.state.trace), Spent) ∷ [])

-- what the oldest frame comes to: its effects are applied, and the frame is empty; or it faults, all
-- frames are flushed, and the run has ended
abbrev pub commit_to : Outcome → Frame → List Frame → Window → Window
commit_to (Comes o) f fs w =
    let p : State × Stepped = apply f.code.writes.items o w.state in
    record w { state = p.0; over = p.1; frames = fs }
commit_to (Faults c) f fs w = record w { over = Trap c; frames = [] }

-- the oldest frame commits: without a marked output its effects, else the least mark of its outputs
abbrev pub commit : List Frame → Window → Window
commit [] w = w
commit (f ∷ fs) w = commit_to (unless (cause_held f) (outputs f)) f fs w
