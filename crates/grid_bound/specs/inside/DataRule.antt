-- What part (4) of a cycle asks of a frame and of the requests that stand for it at data tiles.
use Rattle.std.specs.Prelude.{◌≡◌, ℕ, suc, ◌*◌, true, false, Some, None}
use Rattle.trips_isa.specs.declared.block.Inst.{Inst}
use Rattle.trips_isa.specs.Forms.{form_of}
use Rattle.block_cases.specs.Orders.{slot_of}
use Rattle.operand_net.specs.declared.parcel.Stand.TheVariants.{Nowhere}
use Rattle.commit_flush_spec.specs.Frames.{Frame, at}
use Rattle.commit_flush_spec.specs.inside.Observers.{has_number}
use Rattle.commit_flush_spec.specs.inside.Work.{none_guessed}
use Rattle.grid_cycle_spec.specs.Grid.{Grid}

-- a request that stands with a number is of a slot that waits with it, whose result is in no unit, and in whose
-- places no parcel stands
pub record StandsFor {W : Type 0} (h : Grid W) (e : Frame) (n : ℕ) : Type 0 where
  -- the slot of the load or the store that waits with the number
  pub slot : ℕ
  pub waits : at e.requests n ≡ Some slot
  pub left : h.works e.number slot ≡ false
  pub first : h.parcels e.number (2 * slot) ≡ Nowhere
  pub second : h.parcels e.number (suc (2 * slot)) ≡ Nowhere

-- so of each request at a data tile; what waits with a number is a load or a store, and no store has come for it; no
-- load of a careful frame was guessed
pub record DataRule {W : Type 0} (h : Grid W) (e : Frame) : Type 0 where
  -- a request at a data tile has nothing else under way
  pub standing : (n : ℕ) → h.asked e.number n ≡ true → StandsFor h e n
  -- a store that has come waits no more
  pub unresolved : (n s : ℕ) → at e.requests n ≡ Some s → at e.stores n ≡ None
  -- only a load or a store waits with a number
  pub numbered : (n s : ℕ) → at e.requests n ≡ Some s → (i : Inst) → slot_of e.code s ≡ Some i
      → has_number (form_of i.op) ≡ true
  -- a careful frame has answered no load before a lower store of its own
  pub careful : h.careful e.number ≡ true → none_guessed e ≡ true
