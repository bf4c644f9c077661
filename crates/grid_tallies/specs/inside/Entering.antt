-- How many parcels enter the mesh: the tokens of a node, and what a unit gives.
use Rattle.std.specs.Prelude.{ℕ, zero, suc, ◌+◌, ◌*◌, List, Option, Some, None, is_some}
use Rattle.trips_isa.specs.declared.block.Inst.{Inst}
use Rattle.trips_isa.specs.declared.form.Form.{Form}
use Rattle.trips_isa.specs.declared.form.Form.TheVariants.{Load, Store, Branch}
use Rattle.trips_isa.specs.Forms.{form_of}
use Rattle.commit_flush_spec.specs.Frames.{Frame, at}
use Rattle.grid_cycle_spec.specs.Choosing.{eldest, slots}
use Rattle.grid_cycle_spec.specs.Grid.{Grid}
use Rattle.grid_cycle_spec.specs.Units.{in_unit}
use Rattle.grid_events.specs.Counts.{one_if}
use Rattle.grid_parts.specs.inside.Asked.{frame_of, holds_of, inst_of}

-- how many tokens a frame has in a place and the next, where it is in flight
abbrev pub tokens_in : ℕ → Option Frame → ℕ
tokens_in p o = one_if (holds_of (λ f. is_some (at f.places p)) o)
    + one_if (holds_of (λ f. is_some (at f.places (suc p))) o)

-- how many parcels the result of a slot is: one request, one branch, or the tokens of any other
abbrev pub results_of : Form → ℕ → Option Frame → ℕ
results_of Load s o = 1
results_of Store s o = 1
results_of Branch s o = 1
results_of _ s o = tokens_in (2 * s) o

-- the same of what a slot holds
abbrev pub results_in : Option Inst → ℕ → Option Frame → ℕ
results_in None s o = 0
results_in (Some i) s o = results_of (form_of i.op) s o

-- the same of the slot of a frame that is finished
abbrev pub finished : Option (ℕ × ℕ) → List Frame → ℕ
finished None fs = 0
finished (Some q) fs = results_in (inst_of q.0 q.1 fs) q.1 (frame_of q.0 fs)

-- how many parcels the unit of a tile gives that is busy for so many cycles yet
abbrev pub given : {W : Type 0} → ℕ → ℕ → Grid W → ℕ
given tile zero g = 0
given tile (suc zero) g = finished (eldest (in_unit g tile) slots g.window.frames) g.window.frames
given tile (suc (suc left)) g = 0
