-- What part (5) of a cycle asks of a frame and of the results that units have of it.
use Rattle.std.specs.Prelude.{◌≡◌, ℕ, suc, ◌*◌, ◌≤◌, Bool, true, false, Some, None, is_some, slice_index_or}
use Rattle.trips_isa.specs.declared.block.Inst.{Inst}
use Rattle.trips_isa.specs.declared.form.Form.{Form}
use Rattle.trips_isa.specs.declared.form.Form.TheVariants.{Load, Store, Branch}
use Rattle.trips_isa.specs.Forms.{form_of}
use Rattle.block_cases.specs.Orders.{slot_of}
use Rattle.operand_net.specs.declared.parcel.Stand.TheVariants.{Nowhere}
use Rattle.commit_flush_spec.specs.Frames.{Frame, at, target, is_target}
use Rattle.commit_flush_spec.specs.inside.Observers.{has_number}
use Rattle.grid_cycle_spec.specs.Stations.{tile_of}
use Rattle.grid_cycle_spec.specs.Grid.{Grid}

-- what the result of slot s is: a request that waits and is not at its data tile, or a token in each place that has a
-- target
abbrev pub ResultOf : (ℕ → Bool) → Frame → Form → Inst → ℕ → Type 0
ResultOf asked e Load i s = (at e.requests i.number ≡ Some s) × (asked i.number ≡ false)
ResultOf asked e Store i s = (at e.requests i.number ≡ Some s) × (asked i.number ≡ false)
ResultOf asked e Branch i s = Unit {0}
ResultOf asked e _ i s = (is_some (at e.places (2 * s)) ≡ is_target (target e.code (2 * s)))
    × (is_some (at e.places (suc (2 * s))) ≡ is_target (target e.code (suc (2 * s))))

-- the result of slot s is in a unit, which is busy, and no parcel stands in its places
pub record InUnit {W : Type 0} (h : Grid W) (e : Frame) (s : ℕ) : Type 0 where
  -- what stands in the slot
  pub inst : Inst
  pub is_inst : slot_of e.code s ≡ Some inst
  pub fired : slice_index_or e.fired s false ≡ true
  pub busy : 1 ≤ h.units (tile_of s)
  -- it has nothing else under way
  pub first : h.parcels e.number (2 * s) ≡ Nowhere
  pub second : h.parcels e.number (suc (2 * s)) ≡ Nowhere
  -- what it gives is still to come to where it goes
  pub result : ResultOf (h.asked e.number) e (form_of inst.op) inst s

-- so of each result; a unit has one of the frame at most; what waits with a number is a load or a store, and no store
-- has come for it
pub record UnitRule {W : Type 0} (h : Grid W) (e : Frame) : Type 0 where
  -- each result in a unit is that of a slot which has fired
  pub working : (s : ℕ) → h.works e.number s ≡ true → InUnit h e s
  -- of the slots of one tile at most one has its result there
  pub alone : (r s : ℕ) → h.works e.number r ≡ true → h.works e.number s ≡ true → tile_of r ≡ tile_of s → r ≡ s
  -- a store that has come waits no more
  pub unresolved : (n s : ℕ) → at e.requests n ≡ Some s → at e.stores n ≡ None
  -- only a load or a store waits with a number
  pub numbered : (n s : ℕ) → at e.requests n ≡ Some s → (i : Inst) → slot_of e.code s ≡ Some i
      → has_number (form_of i.op) ≡ true
