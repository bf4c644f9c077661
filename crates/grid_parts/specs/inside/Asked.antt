-- What is asked of a window, in words over its frames.
use Rattle.std.specs.Prelude.{ℕ, ◌==◌, Bool, false, cond, List, [], ◌∷◌, Option, Some, None, is_some, slice_get}
use Rattle.trips_isa.specs.declared.block.Inst.{Inst}
use Rattle.trips_isa.specs.declared.block.ReadSlot.{ReadSlot}
use Rattle.trips_isa.specs.Forms.{form_of, is_store}
use Rattle.block_cases.specs.Orders.{slot_of}
use Rattle.commit_flush_spec.specs.Frames.{Frame, Exit, at}
use Rattle.commit_flush_spec.specs.Memory.{request}
use Rattle.grid_cycle_spec.specs.DataTiles.{tile_by}
use Rattle.grid_parts.specs.declared.windows.Request.{Request}

-- the frame of a number, where it is in flight
abbrev pub frame_of : ℕ → List Frame → Option Frame
frame_of n [] = None
frame_of n (f ∷ fs) = cond (f.number == n) (Some f) (frame_of n fs)

-- what is found in a frame, where there is one
abbrev pub found_in : {A : Type 0} → (Frame → Option A) → Option Frame → Option A
found_in does None = None
found_in does (Some f) = does f

-- whether something holds of a frame, where there is one
abbrev pub holds_of : (Frame → Bool) → Option Frame → Bool
holds_of test None = false
holds_of test (Some f) = test f

-- the block of a frame
abbrev pub block_of : ℕ → List Frame → Option ℕ
block_of n fs = found_in (λ f. Some f.block) (frame_of n fs)

-- the number of an exit
abbrev pub number_of : Option Exit → Option ℕ
number_of None = None
number_of (Some e) = Some e.exit

-- the number of the exit that has come in a frame
abbrev pub exit_of : ℕ → List Frame → Option ℕ
exit_of n fs = found_in (λ f. number_of f.exit) (frame_of n fs)

-- what a slot of a frame's block holds
abbrev pub inst_of : ℕ → ℕ → List Frame → Option Inst
inst_of n s fs = found_in (λ f. slot_of f.code s) (frame_of n fs)

-- the register of a read
abbrev pub register_in : Option ReadSlot → Option ℕ
register_in None = None
register_in (Some r) = Some r.register

-- the register of a read of a frame's block
abbrev pub register_of : ℕ → ℕ → List Frame → Option ℕ
register_of n r fs = found_in (λ f. register_in (slice_get f.code.reads.items r)) (frame_of n fs)

-- whether a token is on its way in a place of a frame
abbrev pub has_token : ℕ → ℕ → List Frame → Bool
has_token n p fs = holds_of (λ f. is_some (at f.places p)) (frame_of n fs)

-- the slot that waits with a number in a frame
abbrev pub waits_at : ℕ → ℕ → List Frame → Option ℕ
waits_at n k fs = found_in (λ f. at f.requests k) (frame_of n fs)

-- what waits in a frame, with the data tile that serves its address
abbrev pub request_at : Frame → Option (ℕ × Inst) → Option Request
request_at f None = None
request_at f (Some q) = Some (record { slot = q.0; inst = q.1; tile = tile_by q.1 (at f.spots q.0) })

-- what waits with a number in a frame
abbrev pub request_of : ℕ → ℕ → List Frame → Option Request
request_of n k fs = found_in (λ f. request_at f (request f k)) (frame_of n fs)

-- the data tile of what waits, tile 0 where nothing does, and whether it is a store
abbrev pub tile_in : Option Request → ℕ
tile_in None = 0
tile_in (Some q) = q.tile

-- no store where nothing waits
abbrev pub store_in : Option Request → Bool
store_in None = false
store_in (Some q) = is_store (form_of (q.inst).op)
