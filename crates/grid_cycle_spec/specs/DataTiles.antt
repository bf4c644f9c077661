-- Part (4) of a cycle: data tiles answer loads and stores (docs/GRID.md, "A cycle" and "Guessed loads").
use Rattle.std.specs.Prelude.{ℕ, ◌+◌, ◌*◌, ◌%◌, ◌==◌, Bool, false, cond, ◌&&◌, ◌||◌, not, List, [], ◌∷◌}
use Rattle.std.specs.Prelude.{Option, Some, None}
use Rattle.trips_isa.specs.declared.block.Token.TheVariants.{Null, Word}
use Rattle.trips_isa.specs.declared.block.Inst.{Inst}
use Rattle.trips_isa.specs.declared.block.Stored.{Stored}
use Rattle.trips_isa.specs.declared.block.Block.{Block}
use Rattle.trips_isa.specs.Rule.{Answer}
use Rattle.trips_isa.specs.Forms.{form_of, is_store}
use Rattle.trips_isa.specs.Stores.{address_of, stored_of}
use Rattle.commit_flush_spec.specs.Frames.{Frame, at, numbers}
use Rattle.commit_flush_spec.specs.Older.{took_touched, nearest, passes}
use Rattle.commit_flush_spec.specs.Ends.{store_came, all_below}
use Rattle.commit_flush_spec.specs.Memory.{request, with_store}
use Rattle.commit_flush_spec.specs.Window.{Window, Load, Store, can, happens}
use Rattle.grid_cycle_spec.specs.Stations.{data_tile_of, data_node, data_tiles}
use Rattle.grid_cycle_spec.specs.Grid.{Grid}
use Rattle.grid_cycle_spec.specs.Acting.{act, is_done}
use Rattle.grid_cycle_spec.specs.Choosing.{eldest, each, found_in, least, with_frame}
use Rattle.grid_cycle_spec.specs.Sending.{enter_both}

-- requests ---------------------------------------------------------------------------------------

-- the data tile of an instruction with this left operand; a null address is served by tile 0
abbrev pub tile_by : Inst → Answer → ℕ
tile_by i None = 0
tile_by i (Some Null) = 0
tile_by i (Some (Word left)) = data_tile_of (address_of i left)

-- the data tile of what waits in a frame
abbrev pub tile_for : Frame → Option (ℕ × Inst) → ℕ
tile_for f None = 0
tile_for f (Some q) = tile_by q.1 (at f.spots q.0)

-- whether what waits is a store
abbrev pub asks_store : Option (ℕ × Inst) → Bool
asks_store None = false
asks_store (Some q) = is_store (form_of (q.1).op)

-- whether all stores before number n of the frame of number m are resolved: those of older frames, and its own
-- of lower numbers
abbrev pub all_resolved : ℕ → ℕ → List Frame → Bool
all_resolved m n [] = false
all_resolved m n (f ∷ fs) = cond (f.number == m) (all_below (store_came f) n)
    (all_below (store_came f) numbers && all_resolved m n fs)

-- the waiting bit of a load of a block
abbrev pub bit_of : ℕ → ℕ → ℕ
bit_of block n = (32 * block + n) % 1024

-- whether a load waits for older stores: by its bit, or in a careful frame
abbrev pub must_wait : {W : Type 0} → Grid W → Frame → ℕ → Bool
must_wait g f n = g.waits (bit_of f.block n) || g.careful f.number

-- whether the request with a number may be answered: a store at once, and a load at once unless it waits
abbrev pub may_answer : {W : Type 0} → Grid W → Frame → ℕ → Bool
may_answer g f n = asks_store (request f n) || (not (must_wait g f n) || all_resolved f.number n g.window.frames)

-- whether a data tile may answer the request with a number
abbrev pub answers_request : {W : Type 0} → Grid W → ℕ → Frame → ℕ → Bool
answers_request g tile f n = g.asked f.number n && ((tile_for f (request f n) == tile) && may_answer g f n)

-- a request stands at its data tile no longer
abbrev pub unasked : {W : Type 0} → ℕ → ℕ → Grid W → Grid W
unasked m n g = record g { asked = λ f k. cond ((f == m) && (k == n)) false (g.asked f k) }

-- loads ------------------------------------------------------------------------------------------

-- load n of the frame of number m, which waits in a slot, is answered, and its token enters the mesh
abbrev pub load_answered : {W : Type 0} → List Block → ℕ → ℕ → ℕ → ℕ → ℕ → Grid W → Grid W
load_answered blocks budget tile m n slot g =
    let after : Window = happens blocks budget (Load m n) g.window in
    with_frame m (λ f h. enter_both (data_node tile) f (2 * slot) h) after.frames
    (unasked m n (record g { window = after }))

-- stores -----------------------------------------------------------------------------------------

-- the store of what waits
abbrev pub stored_by : Frame → Option (ℕ × Inst) → Option Stored
stored_by f None = None
stored_by f (Some q) = stored_of q.1 (at f.spots q.0) (at f.spots (128 + q.0))

-- the first of some frames with a load that took a touched byte, by number, and its lowest such load
abbrev pub wrong_behind : (ℕ → Bool) → List Frame → Option (ℕ × ℕ)
wrong_behind touched [] = None
wrong_behind touched (f ∷ fs) = found_in f
    (least (λ n. took_touched (passes (at f.stores) n touched) (at f.loads n)) numbers 0)
    (wrong_behind (passes (at f.stores) numbers touched) fs)

-- the same, where store n of f has just been resolved: its own loads of greater numbers, then younger frames
abbrev pub wrong_from : ℕ → Frame → List Frame → Option (ℕ × ℕ)
wrong_from n f fs = found_in f
    (least (λ k. took_touched (nearest (at f.stores) n k) (at f.loads k)) numbers 0)
    (wrong_behind (nearest (at f.stores) n numbers) fs)

-- the same, where what waits with number n in the frame of number m is resolved as a store
abbrev pub wrong_in : ℕ → ℕ → List Frame → Option (ℕ × ℕ)
wrong_in m n [] = None
wrong_in m n (f ∷ fs) = cond (f.number == m) (wrong_from n (with_store n (stored_by f (request f n)) 0 f) fs)
    (wrong_in m n fs)

-- the frame that Store of this frame and number would flush first, by number, and its lowest wrong load; none where
-- that event would flush none, or would not be Done
abbrev pub wrong_load : List Block → ℕ → ℕ → ℕ → Window → Option (ℕ × ℕ)
wrong_load blocks budget m n w = cond (is_done (can blocks budget (Store m n) w)) (wrong_in m n w.frames) None

-- a load by its block, in place of the number of its frame
abbrev pub by_block : List Frame → Option (ℕ × ℕ) → Option (ℕ × ℕ)
by_block fs None = None
by_block fs (Some c) = with_frame c.0 (λ f o. Some (f.block, c.1)) fs None

-- the load of this block and number waits from now on, and the block stands as the predicted next block
abbrev pub waits_now : {W : Type 0} → Option (ℕ × ℕ) → Grid W → Grid W
waits_now None g = g
waits_now (Some q) g = record g {
  waits = λ k. (k == bit_of q.0 q.1) || g.waits k;
  standing = Some q.0;
}

-- store n of the frame of number m is resolved, and what it flushes goes; its lowest wrong load waits from now on
abbrev pub store_resolved : {W : Type 0} → List Block → ℕ → ℕ → ℕ → Grid W → Grid W
store_resolved blocks budget m n g =
    waits_now (by_block g.window.frames (wrong_load blocks budget m n g.window))
    (act blocks budget (Store m n) (unasked m n g))

-- turns ------------------------------------------------------------------------------------------

-- the answer to what waits with a number in a frame
abbrev pub answered_by : {W : Type 0} → List Block → ℕ → ℕ → ℕ → ℕ → Option (ℕ × Inst) → Grid W → Grid W
answered_by blocks budget tile m n None g = g
answered_by blocks budget tile m n (Some q) g = cond (is_store (form_of (q.1).op))
    (store_resolved blocks budget m n g) (load_answered blocks budget tile m n q.0 g)

-- a data tile answers what it has chosen: a frame's number, and the number of its request
abbrev pub answer_chosen : {W : Type 0} → List Block → ℕ → ℕ → Option (ℕ × ℕ) → Grid W → Grid W
answer_chosen blocks budget tile None g = g
answer_chosen blocks budget tile (Some c) g =
    with_frame c.0 (λ f h. answered_by blocks budget tile c.0 c.1 (request f c.1) h) g.window.frames g

-- a data tile answers its eldest answerable request
abbrev pub data_turn : {W : Type 0} → List Block → ℕ → ℕ → Grid W → Grid W
data_turn blocks budget tile g =
    answer_chosen blocks budget tile (eldest (answers_request g tile) numbers g.window.frames) g

-- part (4)
abbrev pub answers : {W : Type 0} → List Block → ℕ → Grid W → Grid W
answers blocks budget g = each (data_turn blocks budget) data_tiles g
