-- How a frame ends: Exit and Seal, and the effects that a sealed frame holds.
use Rattle.std.specs.Prelude.{ℕ, zero, suc, ◌+◌, Bool, true, false, cond, ◌&&◌, ◌||◌, not, List, [], ◌∷◌}
use Rattle.std.specs.Prelude.{length, Option, Some, None, is_none, is_some}
use Rattle.trips_isa.specs.declared.block.Block.{Block}
use Rattle.trips_isa.specs.PlaceNumbers.{first_write}
use Rattle.trips_isa.specs.TrapCauses.{no_mark}
use Rattle.trips_isa.specs.Blocks.{Leaving, leaves_with}
use Rattle.trips_isa.specs.Outcomes.{Effects, next_of, is_system, exit_of, writes_from, all_stores}
use Rattle.trips_isa.specs.Places.{in_mask}
use Rattle.block_cases.specs.Orders.{slot_of}
use Rattle.trips_isa.specs.Marks.{owed, least_at}
use Rattle.commit_flush_spec.specs.Marks.{mark_left, mark_held}
use Rattle.commit_flush_spec.specs.Frames.{Frame, Exit, at, numbers, emptied, slot_node}
use Rattle.commit_flush_spec.specs.Sending.{token_with, mark_with}
use Rattle.commit_flush_spec.specs.Older.{Older, successor_of, follows}
use Rattle.commit_flush_spec.specs.Causes.{NoFrame, NoExit, Missing, Happened, judged}

-- exits ----------------------------------------------------------------------------------------

-- why no exit is made known
abbrev pub can_exit : Older → Frame → Happened
can_exit o f = judged ((f.sealed, NoFrame) ∷ (is_none f.leaving, NoExit) ∷ [])

-- what the branch that fires makes known in block k
abbrev pub exit_by : List Block → ℕ → Leaving → Option Exit
exit_by blocks k None = None
exit_by blocks k (Some p) = Some (record {
  exit = exit_of (Some p);
  system = is_system (Some p);
  successor = next_of blocks k (Some p);
})

-- the waiting branch with its token
abbrev pub branch_of : Frame → Option ℕ → Leaving
branch_of f None = None
branch_of f (Some s) = leaves_with (slot_of f.code s) (token_with f (slot_node f.code s) 0)

-- the younger frames, or none where the next one holds another block than the known one
abbrev pub kept : Option ℕ → List Frame → List Frame
kept known [] = []
kept known (f ∷ fs) = cond (follows known f.block) (f ∷ fs) []

-- the mark of the waiting branch
abbrev pub branch_mark : Frame → Option ℕ → ℕ
branch_mark f None = no_mark
branch_mark f (Some s) = mark_with f (slot_node f.code s)

-- the frame with an exit and its mark c, and without a branch that waits
abbrev pub with_exit : Option Exit → ℕ → Frame → Frame
with_exit e c f = record f { leaving = None; exit = e; marks = mark_left c f.marks }

-- makes the successor known, and flushes the younger frames where they are of another block
abbrev pub exit : List Block → Older → Frame → List Frame → List Frame
exit blocks o f fs =
    let e : Option Exit = exit_by blocks f.block (branch_of f f.leaving) in
    with_exit e (branch_mark f f.leaving) f ∷ kept (successor_of e) fs

-- sealing --------------------------------------------------------------------------------------

-- whether a test holds of each number below n
abbrev pub all_below : (ℕ → Bool) → ℕ → Bool
all_below p zero = true
all_below p (suc n) = p n && all_below p n

-- whether declared write w has its token
abbrev pub write_came : Frame → ℕ → Bool
write_came f w = is_some (at f.spots (first_write + w))

-- whether number n has its store, or wants none
abbrev pub store_came : Frame → ℕ → Bool
store_came f n = not (in_mask f.code.mask n) || is_some (at f.stores n)

-- every declared write has its token, every number of the mask its store, and the exit has come
abbrev pub complete : Frame → Bool
complete f = all_below (write_came f) (length f.code.writes.items)
    && (all_below (store_came f) numbers && is_some f.exit)

-- why a frame is not sealed
abbrev pub can_seal : Older → Frame → Happened
can_seal o f = judged ((f.sealed, NoFrame) ∷ (not (complete f), Missing) ∷ [])

-- no token stays on its way and nothing waits
abbrev pub seal : Older → Frame → Frame
seal o f = record f {
  sealed = true;
  places = emptied f.places;
  requests = emptied f.requests;
  leaving = None;
}

-- what a sealed frame hands to its commit
abbrev pub effects_with : Frame → Option Exit → Effects
effects_with f None = record {
  writes = writes_from (at f.spots) 0 f.code.writes.items;
  stores = all_stores (at f.stores);
  exit = 0;
  system = false;
  successor = 0;
}
effects_with f (Some e) = record {
  writes = writes_from (at f.spots) 0 f.code.writes.items;
  stores = all_stores (at f.stores);
  exit = e.exit;
  system = e.system;
  successor = e.successor;
}

-- the effects that a sealed frame hands to its commit
abbrev pub outputs : Frame → Effects
outputs f = effects_with f f.exit

-- the least mark of the outputs that a sealed frame holds, or none
abbrev pub cause_held : Frame → ℕ
cause_held f = least_at (mark_held f.marks) (owed f.code)
