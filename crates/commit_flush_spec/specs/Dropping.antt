-- The events that change one frame and flush younger ones, as a change of that frame alone and the beginning of what
-- is left, as a machine makes them that keeps frames by number and cuts their order of age.
use Rattle.std.specs.Prelude.{ℕ, suc, ◌+◌, ◌==◌, Bool, cond, List, [], ◌∷◌, length, Option, Some, None}
use Rattle.trips_isa.specs.declared.block.Inst.{Inst}
use Rattle.trips_isa.specs.declared.block.Block.{Block}
use Rattle.trips_isa.specs.Stores.{stored_of}
use Rattle.commit_flush_spec.specs.Frames.{Frame, at, numbers, slot_node}
use Rattle.commit_flush_spec.specs.Sending.{mark_with}
use Rattle.commit_flush_spec.specs.Older.{Older, after, follows, successor_of, nearest, passes, violated}
use Rattle.commit_flush_spec.specs.Memory.{request, with_store}
use Rattle.commit_flush_spec.specs.Ends.{exit_by, branch_of}

-- how many frames a change of the frame of a number leaves, where `left` says how many of it and those behind it
abbrev pub left_by : (Older → Frame → List Frame → ℕ) → Older → List Frame → ℕ → ℕ
left_by left o [] n = 0
left_by left o (f ∷ fs) n = cond (f.number == n) (left o f fs) (suc (left_by left (after f o) fs n))

-- how many frames stand before the first that took a touched byte
abbrev pub untouched : (ℕ → Bool) → List Frame → ℕ
untouched touched [] = 0
untouched touched (f ∷ fs) = cond (violated (λ n. passes (at f.stores) n touched) f.loads) 0
    (suc (untouched (passes (at f.stores) numbers touched) fs))

-- stores ---------------------------------------------------------------------------------------

-- the frame with the store that waits with number n, if one does
abbrev pub with_resolved : ℕ → Frame → Option (ℕ × Inst) → Frame
with_resolved n f None = f
with_resolved n f (Some q) = with_store n (stored_of q.1 (at f.spots q.0) (at f.spots (128 + q.0)))
    (mark_with f (slot_node f.code q.0)) f

-- how many frames are left of f, which has its store of number n, and of the younger ones
abbrev pub store_leaves : ℕ → Frame → List Frame → ℕ
store_leaves n f fs = cond (violated (nearest (at f.stores) n) f.loads) 0
    (suc (untouched (nearest (at f.stores) n numbers) fs))

-- all are left where no store waits
abbrev pub resolved_leaves : ℕ → Frame → List Frame → Option (ℕ × Inst) → ℕ
resolved_leaves n f fs None = suc (length fs)
resolved_leaves n f fs (Some q) = store_leaves n (with_resolved n f (Some q)) fs

-- how many frames are left from the storing one on: those before the first that the store flushes,
-- which may be the storing one itself
abbrev pub store_left : ℕ → Older → Frame → List Frame → ℕ
store_left n o f fs = resolved_leaves n f fs (request f n)

-- exits ----------------------------------------------------------------------------------------

-- how many of the younger frames are left: all, or none where the next one holds another block
abbrev pub exit_leaves : Option ℕ → List Frame → ℕ
exit_leaves known [] = 0
exit_leaves known (f ∷ fs) = cond (follows known f.block) (suc (length fs)) 0

-- how many are left from the leaving one on: all, or itself alone where the next one holds another
-- block than its exit names
abbrev pub exit_left : List Block → Older → Frame → List Frame → ℕ
exit_left blocks o f fs = suc (exit_leaves (successor_of (exit_by blocks f.block (branch_of f f.leaving))) fs)

-- a flush leaves none from its frame on
abbrev pub none_left : Older → Frame → List Frame → ℕ
none_left o f fs = 0
