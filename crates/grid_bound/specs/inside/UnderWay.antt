-- What of a frame is under way in the grid: a parcel, a request at a data tile or a result in a unit stands for each
-- token that is in a place of the frame and for each instruction that waits, and for nothing else.
use Rattle.std.specs.Prelude.{◌≡◌, ◌≢◌, ℕ, suc, ◌<◌, ◌*◌, ◌/◌, ◌%◌, ◌==◌, ◌&&◌, ◌||◌, not, Bool, true, false, cond}
use Rattle.std.specs.Prelude.{nat_lt, Option, Some, None, is_some, slice_index_or}
use Rattle.trips_isa.specs.declared.block.Inst.{Inst}
use Rattle.trips_isa.specs.declared.form.Form.{Form}
use Rattle.trips_isa.specs.declared.form.Form.TheVariants.{Load, Store, Branch}
use Rattle.trips_isa.specs.Forms.{form_of}
use Rattle.block_cases.specs.Orders.{slot_of}
use Rattle.operand_net.specs.declared.parcel.Stand.{Stand}
use Rattle.operand_net.specs.declared.parcel.Stand.TheVariants.{Nowhere}
use Rattle.operand_net.specs.inside.IsStands.{is_here}
use Rattle.commit_flush_spec.specs.Frames.{Frame, at, first_read_place, token_places, target, is_target}
use Rattle.grid_cycle_spec.specs.inside.Arrivals.{is_waiting}

-- parcels -----------------------------------------------------------------------------------------

-- whether what slot s holds waits and is still to come to where it is served: the request of a load or a store to its
-- data tile, a branch to the control tile
abbrev pub to_come : (ℕ → Bool) → Frame → Form → Inst → ℕ → Bool
to_come asked f Load i s = is_waiting (at f.requests i.number) s && not (asked i.number)
to_come asked f Store i s = is_waiting (at f.requests i.number) s && not (asked i.number)
to_come asked f Branch i s = is_waiting f.leaving s
to_come asked f _ i s = false

-- whether there is a parcel in a place of an instruction that has left its unit, the first or the second of its two
-- places: what is to come travels in the first one, and a token in its place
abbrev pub form_travels : Form → (first coming token : Bool) → Bool
form_travels Load first coming token = (first && coming) || token
form_travels Store first coming token = first && coming
form_travels Branch first coming token = first && coming
form_travels _ first coming token = token

-- the same of what a slot holds; in the places of a result that is in a unit there is none
abbrev pub inst_travels : (asked works : ℕ → Bool) → Frame → Option Inst → ℕ → Bool
inst_travels asked works f None p = false
inst_travels asked works f (Some i) p = not (works (p / 2)) && form_travels (form_of i.op) (p % 2 == 0)
    (to_come asked f (form_of i.op) i (p / 2)) (is_some (at f.places p))

-- whether there is a parcel in place p of a frame: that of a slot, or the token of a read
abbrev pub travels : (asked works : ℕ → Bool) → Frame → ℕ → Bool
travels asked works f p = cond (nat_lt p first_read_place)
    (inst_travels asked works f (slot_of f.code (p / 2)) p) (is_some (at f.places p))

-- results -----------------------------------------------------------------------------------------

-- a place with a target has its token
abbrev pub IsSent : Frame → ℕ → Type 0
IsSent f p = is_target (target f.code p) ≡ true → at f.places p ≢ None

-- what the result of slot s is in its unit: what waits and is to come, or a token for each target
abbrev pub Gives : (ℕ → Bool) → Frame → Form → Inst → ℕ → Type 0
Gives asked f Load i s = to_come asked f Load i s ≡ true
Gives asked f Store i s = to_come asked f Store i s ≡ true
Gives asked f Branch i s = to_come asked f Branch i s ≡ true
Gives asked f _ i s = IsSent f (2 * s) × IsSent f (suc (2 * s))

-- the same of what the slot holds
abbrev pub SlotGives : (ℕ → Bool) → Frame → Option Inst → ℕ → Type 0
SlotGives asked f None s = ⊥
SlotGives asked f (Some i) s = Gives asked f (form_of i.op) i s

-- the result of slot s is in a unit: the slot has fired, and what it gives is to come
pub record InUnit (asked : ℕ → Bool) (f : Frame) (s : ℕ) : Type 0 where
  -- as a slot does when it is issued
  pub fired : slice_index_or f.fired s false ≡ true
  -- none of it is on the mesh or at a station yet
  pub gives : SlotGives asked f (slot_of f.code s) s

-- frames ------------------------------------------------------------------------------------------

-- a running frame and what is under way of it: there is a parcel in a place exactly where one is to be, each request
-- at a data tile is one that waits, and each result in a unit is one that is to come
pub record Tied (parcels : ℕ → Stand) (asked works : ℕ → Bool) (f : Frame) : Type 0 where
  -- exactly where one is to be, and nowhere else
  pub travelling : (p : ℕ) → p < token_places → is_here (parcels p) ≡ travels asked works f p
  -- a request at a data tile is that of a number with which something waits
  pub standing : (n : ℕ) → asked n ≡ true → at f.requests n ≢ None
  -- a result in a unit is that of a slot which has fired
  pub working : (s : ℕ) → works s ≡ true → InUnit asked f s

-- nothing is under way
pub record Nothing (parcels : ℕ → Stand) (asked works : ℕ → Bool) : Type 0 where
  pub none_travels : (p : ℕ) → p < token_places → parcels p ≡ Nowhere
  pub none_stands : (n : ℕ) → asked n ≡ false
  pub none_works : (s : ℕ) → works s ≡ false
