-- The notes of the arrivals of part (6) of a cycle.
use Rattle.std.specs.Prelude.{ℕ, ◌+◌, ◌/◌, cond, nat_lt, List, [], ◌∷◌, ◌++◌, Option, Some, None}
use Rattle.trips_isa.specs.declared.block.Inst.{Inst}
use Rattle.trips_isa.specs.declared.block.Block.{Block}
use Rattle.trips_isa.specs.declared.form.Form.{Form}
use Rattle.trips_isa.specs.declared.form.Form.TheVariants.{Load, Store, Branch}
use Rattle.trips_isa.specs.Forms.{form_of}
use Rattle.block_cases.specs.Orders.{slot_of}
use Rattle.operand_net.specs.inside.Places.{come, without}
use Rattle.operand_net.specs.declared.parcel.Parcel.{Parcel}
use Rattle.commit_flush_spec.specs.Frames.{Frame, at, first_read_place}
use Rattle.commit_flush_spec.specs.Older.{successor_of}
use Rattle.commit_flush_spec.specs.Ends.{exit_by, branch_of}
use Rattle.commit_flush_spec.specs.Window as window
use Rattle.grid_cycle_spec.specs.Grid.{Grid}
use Rattle.grid_cycle_spec.specs.Choosing.{each}
use Rattle.grid_cycle_spec.specs.inside.Choosing.{places}
use Rattle.grid_cycle_spec.specs.inside.Arrivals.{is_waiting, arrival}
use Rattle.grid_events.specs.Notes.{WrongExit, Note, Delivers, Leaves, OnMesh, Comes, Asks}
use Rattle.grid_events.specs.Turns.{of_each, of_frame, acted}

-- beside `asks`: a request stands at its data tile
abbrev pub asks_notes : ℕ → ℕ → List Note
asks_notes m n = OnMesh (Asks m n) ∷ []

-- beside `load_arrives`: a request while the load waits, and else its token
abbrev pub load_arrives_notes : Inst → ℕ → Frame → List Note
load_arrives_notes i p f = cond (is_waiting (at f.requests i.number) (p / 2))
    (asks_notes f.number i.number) (Delivers f.number p ∷ [])

-- the block that the waiting branch of a frame names
abbrev pub names : List Block → Frame → Option ℕ
names blocks f = successor_of (exit_by blocks f.block (branch_of f f.leaving))

-- beside `slot_arrives`: a branch leaves, and flushes frames of another block
abbrev pub slot_arrives_notes : {W : Type 0} → List Block → ℕ → Form → Inst → ℕ → Frame → Grid W → List Note
slot_arrives_notes blocks budget Load i p f g = load_arrives_notes i p f
slot_arrives_notes blocks budget Store i p f g = asks_notes f.number i.number
slot_arrives_notes blocks budget Branch i p f g =
    acted (Leaves f.number (names blocks f)) WrongExit blocks budget (window.Exit f.number) g
slot_arrives_notes blocks budget _ i p f g = Delivers f.number p ∷ []

-- beside `inst_arrives`
abbrev pub inst_arrives_notes : {W : Type 0} → List Block → ℕ → Option Inst → ℕ → Frame → Grid W → List Note
inst_arrives_notes blocks budget None p f g = []
inst_arrives_notes blocks budget (Some i) p f g = slot_arrives_notes blocks budget (form_of i.op) i p f g

-- beside `place_arrives`
abbrev pub place_notes : {W : Type 0} → List Block → ℕ → ℕ → Frame → Grid W → List Note
place_notes blocks budget p f g = cond (nat_lt p first_read_place)
    (inst_arrives_notes blocks budget (slot_of f.code (p / 2)) p f g) (Delivers f.number p ∷ [])

-- beside `arrives_if`: a parcel comes, and what it brings is noted where its frame is in flight
abbrev pub come_notes : {W : Type 0} → List Block → ℕ → ℕ → ℕ → Option Parcel → Grid W → List Note
come_notes blocks budget n p None g = []
come_notes blocks budget n p (Some parcel) g = OnMesh (Comes n p)
    ∷ of_frame n (λ f. place_notes blocks budget p f (record g { parcels = without g.parcels (Some parcel) }))
    g.window.frames

-- beside `arrival`
abbrev pub arrival_notes : {W : Type 0} → List Block → ℕ → ℕ → ℕ → Grid W → List Note
arrival_notes blocks budget n p g = come_notes blocks budget n p (come n p (g.parcels n p)) g

-- beside `arrivals`: some frames, the eldest first, and the places of each from the lowest
abbrev pub arrivals_notes : {W : Type 0} → List Block → ℕ → List ℕ → Grid W → List Note
arrivals_notes blocks budget [] g = []
arrivals_notes blocks budget (n ∷ ns) g = of_each (arrival blocks budget n) (arrival_notes blocks budget n) places g
    ++ arrivals_notes blocks budget ns (each (arrival blocks budget n) places g)
