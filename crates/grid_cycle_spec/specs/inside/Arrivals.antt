-- Part (6) of a cycle, behind the tick of the mesh: what has arrived is delivered (docs/GRID.md, "A cycle").
use Rattle.std.specs.Prelude.{ℕ, ◌+◌, ◌*◌, ◌/◌, ◌==◌, ◌&&◌, ◌||◌, Bool, false, cond, nat_lt}
use Rattle.std.specs.Prelude.{List, [], ◌∷◌, Option, Some, None}
use Rattle.trips_isa.specs.declared.block.Inst.{Inst}
use Rattle.trips_isa.specs.declared.block.Block.{Block}
use Rattle.trips_isa.specs.declared.form.Form.{Form}
use Rattle.trips_isa.specs.declared.form.Form.TheVariants.{Load, Store, Branch}
use Rattle.trips_isa.specs.Forms.{form_of}
use Rattle.block_cases.specs.Orders.{slot_of}
use Rattle.operand_net.specs.inside.Places.{come, without}
use Rattle.operand_net.specs.declared.parcel.Parcel.{Parcel}
use Rattle.commit_flush_spec.specs.Frames.{Frame, at, first_read_place, token_places}
use Rattle.commit_flush_spec.specs.Window.{Deliver, Exit, happens}
use Rattle.grid_cycle_spec.specs.Grid.{Grid}
use Rattle.grid_cycle_spec.specs.Acting.{act}
use Rattle.grid_cycle_spec.specs.Choosing.{each, with_frame}
use Rattle.grid_cycle_spec.specs.inside.Choosing.{places}

-- the request with a number stands at its data tile
abbrev pub asks : {W : Type 0} → ℕ → ℕ → Grid W → Grid W
asks m n g = record g { asked = λ f k. ((f == m) && (k == n)) || g.asked f k }

-- the token in a place of a frame goes to where it is used
abbrev pub delivers : {W : Type 0} → List Block → ℕ → ℕ → ℕ → Grid W → Grid W
delivers blocks budget n p g = record g { window = happens blocks budget (Deliver (token_places * n + p)) g.window }

-- whether a load or a store waits with a number, for the given slot
abbrev pub is_waiting : Option ℕ → ℕ → Bool
is_waiting None s = false
is_waiting (Some k) s = k == s

-- a parcel of a load's slot is its request while that waits, and else its token
abbrev pub load_arrives : {W : Type 0} → List Block → ℕ → Inst → ℕ → Frame → Grid W → Grid W
load_arrives blocks budget i p f g = cond (is_waiting (at f.requests i.number) (p / 2))
    (asks f.number i.number g) (delivers blocks budget f.number p g)

-- the parcel in a place of a slot has arrived
abbrev pub slot_arrives : {W : Type 0} → List Block → ℕ → Form → Inst → ℕ → Frame → Grid W → Grid W
slot_arrives blocks budget Load i p f g = load_arrives blocks budget i p f g
slot_arrives blocks budget Store i p f g = asks f.number i.number g
slot_arrives blocks budget Branch i p f g = act blocks budget (Exit f.number) g
slot_arrives blocks budget _ i p f g = delivers blocks budget f.number p g

-- the same of what a slot holds
abbrev pub inst_arrives : {W : Type 0} → List Block → ℕ → Option Inst → ℕ → Frame → Grid W → Grid W
inst_arrives blocks budget None p f g = g
inst_arrives blocks budget (Some i) p f g = slot_arrives blocks budget (form_of i.op) i p f g

-- the parcel in a place of a frame has arrived: that of a slot, or that of a read
abbrev pub place_arrives : {W : Type 0} → List Block → ℕ → ℕ → Frame → Grid W → Grid W
place_arrives blocks budget p f g = cond (nat_lt p first_read_place)
    (inst_arrives blocks budget (slot_of f.code (p / 2)) p f g) (delivers blocks budget f.number p g)

-- what has come in a place of the frame of a number is taken from the mesh, and arrives
abbrev pub arrives_if : {W : Type 0} → List Block → ℕ → ℕ → ℕ → Option Parcel → Grid W → Grid W
arrives_if blocks budget n p None g = g
arrives_if blocks budget n p (Some parcel) g =
    with_frame n (place_arrives blocks budget p) g.window.frames
    (record g { parcels = without g.parcels (Some parcel) })

-- one place of a frame
abbrev pub arrival : {W : Type 0} → List Block → ℕ → ℕ → ℕ → Grid W → Grid W
arrival blocks budget n p g = arrives_if blocks budget n p (come n p (g.parcels n p)) g

-- some frames, the eldest first, and the places of each from the lowest
abbrev pub arrivals : {W : Type 0} → List Block → ℕ → List ℕ → Grid W → Grid W
arrivals blocks budget [] g = g
arrivals blocks budget (n ∷ ns) g = arrivals blocks budget ns (each (arrival blocks budget n) places g)
