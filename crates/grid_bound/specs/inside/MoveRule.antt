-- What part (6) of a cycle asks of a frame and of its parcels.
use Rattle.std.specs.Prelude.{◌≡◌, ◌≢◌, ℕ, ◌/◌, ◌%◌, ◌<◌, ◌≤◌, ◌==◌, true, false, cond, Some, None}
use Rattle.trips_isa.specs.declared.block.Inst.{Inst}
use Rattle.trips_isa.specs.declared.form.Form.{Form}
use Rattle.trips_isa.specs.declared.form.Form.TheVariants.{Load, Store, Branch}
use Rattle.trips_isa.specs.Forms.{form_of}
use Rattle.block_cases.specs.Orders.{slot_of}
use Rattle.operand_net.specs.declared.parcel.Stand.{Stand}
use Rattle.operand_net.specs.declared.parcel.Stand.TheVariants.{Nowhere}
use Rattle.commit_flush_spec.specs.Frames.{Frame, at, target, is_target}
use Rattle.commit_flush_spec.specs.inside.Observers.{has_number}
use Rattle.grid_cycle_spec.specs.Grid.{Grid}
use Rattle.grid_cycle_spec.specs.inside.Arrivals.{is_waiting}
use Rattle.grid_bound.specs.inside.Lane.{Asking, first_parcel, second_parcel}
use Rattle.grid_bound.specs.inside.Seen.{phase_of}

-- the token in a place is there, and has a target
pub record IsToken (f : Frame) (p : ℕ) : Type 0 where
  pub there : at f.places p ≢ None
  pub goes : is_target (target f.code p) ≡ true

-- what a parcel in a place of an instruction is: the request of a load or a store that waits, a branch that leaves,
-- in the first of the two places, or a token
abbrev pub Travels : Frame → Form → Inst → ℕ → Type 0
Travels f Load i p = is_waiting (at f.requests i.number) (p / 2) ≡ false → IsToken f p
Travels f Store i p = is_waiting (at f.requests i.number) (p / 2) ≡ true
Travels f Branch i p = (f.leaving ≡ Some (p / 2)) × (p % 2 ≡ 0)
Travels f _ i p = IsToken f p

-- parcels stand where the phases of tasks have them, and each is what it is to be; no request is lost on its way
pub record MoveRule {W : Type 0} (m : Grid W) (f : Frame) : Type 0 where
  -- the lane's parcels are the grid's: the even places are the first ones of their tasks
  pub rows : (p : ℕ) → p < 320 → m.parcels f.number p
      ≡ cond (p % 2 == 0) (first_parcel (phase_of m f (p / 2))) (second_parcel (phase_of m f (p / 2)))
  -- a parcel of a slot's place is the slot's request, its branch or its token
  pub slots : (p : ℕ) (i : Inst) → p < 256 → m.parcels f.number p ≢ Nowhere → slot_of f.code (p / 2) ≡ Some i
      → Travels f (form_of i.op) i p
  -- a parcel of a read's place is a token of that read
  pub reads : (p : ℕ) → 256 ≤ p → p < 320 → m.parcels f.number p ≢ Nowhere → IsToken f p
  -- a task that is asking has its request on the mesh
  pub asks : (x : ℕ) (s : Stand) → phase_of m f x ≡ Asking s → s ≢ Nowhere
  -- only a load or a store waits with a number
  pub numbered : (n s : ℕ) → at f.requests n ≡ Some s → (i : Inst) → slot_of f.code s ≡ Some i
      → has_number (form_of i.op) ≡ true
