-- What happens to one frame and the younger ones at its loads and stores: Load and Store.
use Rattle.std.specs.Prelude.{ℕ, ◌+◌, ◌*◌, Bool, false, cond, not, List, [], ◌∷◌, Option, Some, None, slice_set}
use Rattle.trips_isa.specs.declared.block.Token.TheVariants.{Null, Word}
use Rattle.trips_isa.specs.declared.block.Inst.{Inst}
use Rattle.trips_isa.specs.declared.block.Stored.{Stored}
use Rattle.trips_isa.specs.declared.block.Block.{Block}
use Rattle.trips_isa.specs.declared.form.Form.{Form}
use Rattle.trips_isa.specs.Forms.{form_of, size_of, is_load, is_store}
use Rattle.trips_isa.specs.Rule.{Answer}
use Rattle.trips_isa.specs.Stores.{address_of, is_good_address, stored_of, bytes_seen}
use Rattle.block_cases.specs.Orders.{slot_of}
use Rattle.commit_flush_spec.specs.Marks.{mark_stored}
use Rattle.commit_flush_spec.specs.Sending.{mark_with}
use Rattle.commit_flush_spec.specs.Frames.{Frame, Taken, NoBytes, Bytes, at, numbers, slot_node}
use Rattle.commit_flush_spec.specs.Sending.{send, token_with}
use Rattle.commit_flush_spec.specs.Older.{Older, nearest, violated, cut}
use Rattle.commit_flush_spec.specs.Causes.{NoFrame, NoRequest, Happened, judged}

-- requests -------------------------------------------------------------------------------------

-- an instruction with its slot
abbrev pub with_slot : ℕ → Option Inst → Option (ℕ × Inst)
with_slot s None = None
with_slot s (Some i) = Some (s, i)

-- a slot with its instruction
abbrev pub with_inst : Block → Option ℕ → Option (ℕ × Inst)
with_inst b None = None
with_inst b (Some s) = with_slot s (slot_of b s)

-- the slot and the instruction that wait with number n
abbrev pub request : Frame → ℕ → Option (ℕ × Inst)
request f n = with_inst f.code (at f.requests n)

-- whether what waits is of a kind
abbrev pub is_request : (Form → Bool) → Option (ℕ × Inst) → Bool
is_request kind None = false
is_request kind (Some q) = kind (form_of (q.1).op)

-- why the load or store with number n does not go on
abbrev pub can_request : (Form → Bool) → ℕ → Older → Frame → Happened
can_request kind n o f = judged (
    (f.sealed, NoFrame) ∷ (not (is_request kind (request f n)), NoRequest) ∷ [])

-- loads ----------------------------------------------------------------------------------------

-- why the load with number n is not answered
abbrev pub can_load : ℕ → Older → Frame → Happened
can_load n o f = can_request is_load n o f

-- a load takes no bytes at a null or a bad address
abbrev pub taken_of : Inst → Answer → Taken
taken_of i None = NoBytes
taken_of i (Some Null) = NoBytes
taken_of i (Some (Word left)) = cond (is_good_address (address_of i left) (size_of i.op))
    (Bytes (address_of i left) (size_of i.op)) NoBytes

-- the number that the taken bytes make, as load n of the frame sees them
abbrev pub taken_word : Older → Frame → ℕ → Taken → ℕ
taken_word o f n NoBytes = 0
taken_word o f n (Bytes address size) = bytes_seen (at f.stores) o.memory n address size

-- the load that waits with number n, answered: its token is on its way
abbrev pub load_answered : ℕ → Older → Frame → Option (ℕ × Inst) → Frame
load_answered n o f None = f
load_answered n o f (Some q) =
    let taken : Taken = taken_of q.1 (at f.spots q.0) in
    send (slot_node f.code q.0) (2 * q.0)
    (token_with f (slot_node f.code q.0) (taken_word o f n taken))
    (record f {
      requests = slice_set f.requests n None;
      loads = slice_set f.loads n (Some taken);
    })

-- answers the load that waits with number n
abbrev pub load : ℕ → Older → Frame → Frame
load n o f = load_answered n o f (request f n)

-- stores ---------------------------------------------------------------------------------------

-- why the store with number n is not resolved
abbrev pub can_store : ℕ → Older → Frame → Happened
can_store n o f = can_request is_store n o f

-- the frame with a store of number n and its mark c, which waits no more
abbrev pub with_store : ℕ → Option Stored → ℕ → Frame → Frame
with_store n s c f = record f {
  requests = slice_set f.requests n None;
  stores = slice_set f.stores n s;
  marks = mark_stored n c f.marks;
}

-- flushes the oldest frame with a load for which store n of f is now the nearest, and all younger
abbrev pub checked : ℕ → Frame → List Frame → List Frame
checked n f fs = cond (violated (nearest (at f.stores) n) f.loads) []
    (f ∷ cut (nearest (at f.stores) n numbers) fs)

-- the store that waits with number n, resolved, and the younger frames
abbrev pub store_resolved : ℕ → Frame → List Frame → Option (ℕ × Inst) → List Frame
store_resolved n f fs None = f ∷ fs
store_resolved n f fs (Some q) =
    checked n (with_store n (stored_of q.1 (at f.spots q.0) (at f.spots (128 + q.0)))
    (mark_with f (slot_node f.code q.0)) f) fs

-- resolves the store that waits with number n
abbrev pub store : ℕ → Older → Frame → List Frame → List Frame
store n o f fs = store_resolved n f fs (request f n)
