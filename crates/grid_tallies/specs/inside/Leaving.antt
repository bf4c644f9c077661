-- Which parcels are those of branches, and which blocks these name.
use Rattle.std.specs.Prelude.{ℕ, ◌/◌, ◌==◌, Bool, true, false, cond, nat_lt, List, [], ◌∷◌, Option, Some, None}
use Rattle.trips_isa.specs.declared.block.Block.{Block}
use Rattle.trips_isa.specs.declared.block.Inst.{Inst}
use Rattle.trips_isa.specs.declared.form.Form.{Form}
use Rattle.trips_isa.specs.declared.form.Form.TheVariants.{Branch}
use Rattle.trips_isa.specs.Forms.{form_of}
use Rattle.block_cases.specs.Orders.{slot_of}
use Rattle.commit_flush_spec.specs.Frames.{Frame, first_read_place}
use Rattle.grid_events.specs.Notes.{Note, Leaves}
use Rattle.grid_events.specs.ArrivalNotes.{names}
use Rattle.grid_parts.specs.inside.Asked.{frame_of, found_in}

-- the block to which the branch that waits in a frame leads
abbrev pub leads_at : List Block → ℕ → List Frame → Option ℕ
leads_at blocks n fs = found_in (names blocks) (frame_of n fs)

-- whether an instruction is a branch
abbrev pub is_branch : Form → Bool
is_branch Branch = true
is_branch _ = false

-- what the branch of a frame names, where this is the form of a branch
abbrev pub branch_names : List Block → Form → Frame → Option (Option ℕ)
branch_names blocks form f = cond (is_branch form) (Some (names blocks f)) None

-- the same of what a slot holds
abbrev pub inst_names : List Block → Option Inst → Frame → Option (Option ℕ)
inst_names blocks None f = None
inst_names blocks (Some i) f = branch_names blocks (form_of i.op) f

-- the same of what stands in a place
abbrev pub place_names : List Block → ℕ → Frame → Option (Option ℕ)
place_names blocks p f = cond (nat_lt p first_read_place) (inst_names blocks (slot_of f.code (p / 2)) f) None

-- the same of the frame of a number, where it is in flight
abbrev pub exit_at : List Block → ℕ → ℕ → List Frame → Option (Option ℕ)
exit_at blocks n p fs = found_in (place_names blocks p) (frame_of n fs)

-- the branch of a frame leaves, where one does
abbrev pub left_notes : ℕ → Option (Option ℕ) → List Note
left_notes n None = []
left_notes n (Some k) = Leaves n k ∷ []

-- whether a block was guessed that an exit names
abbrev pub is_right : Option ℕ → Option ℕ → Bool
is_right (Some k) (Some j) = k == j
is_right _ _ = false
