-- The notes of part (5) of a cycle: units give their results to the mesh, and issue what is ready.
use Rattle.std.specs.Prelude.{ℕ, zero, suc, ◌+◌, ◌*◌, ◌==◌, cond, List, [], ◌∷◌, ◌++◌, Option, Some, None}
use Rattle.trips_isa.specs.declared.op.Op.{Op}
use Rattle.trips_isa.specs.declared.block.Inst.{Inst}
use Rattle.trips_isa.specs.declared.block.Block.{Block}
use Rattle.trips_isa.specs.declared.form.Form.{Form}
use Rattle.trips_isa.specs.declared.form.Form.TheVariants.{Load, Store, Branch}
use Rattle.trips_isa.specs.Forms.{form_of}
use Rattle.block_cases.specs.Orders.{slot_of}
use Rattle.commit_flush_spec.specs.Frames.{Frame, at}
use Rattle.grid_cycle_spec.specs.Stations.{data_node, tile_node, tile_of, control, tiles}
use Rattle.grid_cycle_spec.specs.Grid.{Grid}
use Rattle.grid_cycle_spec.specs.Choosing.{eldest, slots}
use Rattle.grid_cycle_spec.specs.DataTiles.{tile_by}
use Rattle.grid_cycle_spec.specs.Units.{in_unit, unit_on, ready, unit_turn}
use Rattle.grid_events.specs.Notes.{Note, Works, Fires}
use Rattle.grid_events.specs.Turns.{of_each, of_frame}
use Rattle.grid_events.specs.StationNotes.{enters_notes, both_notes}

-- beside `result_enters`: a request to its data tile, a branch to control, and the tokens of any other
abbrev pub result_notes : Form → Inst → ℕ → Frame → List Note
result_notes Load i s f = enters_notes f.number (2 * s) (tile_node (tile_of s)) (data_node (tile_by i (at f.spots s)))
result_notes Store i s f = enters_notes f.number (2 * s) (tile_node (tile_of s))
    (data_node (tile_by i (at f.spots s)))
result_notes Branch i s f = enters_notes f.number (2 * s) (tile_node (tile_of s)) control
result_notes _ i s f = both_notes (tile_node (tile_of s)) f (2 * s)

-- beside `slot_enters`
abbrev pub slot_notes : Option Inst → ℕ → Frame → List Note
slot_notes None s f = []
slot_notes (Some i) s f = result_notes (form_of i.op) i s f

-- beside `result_chosen`: none where the frame is there no longer
abbrev pub finished_notes : Option (ℕ × ℕ) → List Frame → List Note
finished_notes None fs = []
finished_notes (Some q) fs = of_frame q.0 (λ f. slot_notes (slot_of f.code q.1) q.1 f) fs

-- beside `unit_on`: a unit that is busy works, and gives its result where its time is over
abbrev pub unit_notes : {W : Type 0} → ℕ → ℕ → Grid W → List Note
unit_notes tile zero g = []
unit_notes tile (suc zero) g = Works tile ∷ finished_notes (eldest (in_unit g tile) slots g.window.frames)
    g.window.frames
unit_notes tile (suc (suc left)) g = Works tile ∷ []

-- the operation of what a slot holds
abbrev pub operation : Option Inst → Option Op
operation None = None
operation (Some i) = Some i.op

-- beside `issue_chosen`: a slot of a frame fires
abbrev pub issue_notes : {W : Type 0} → ℕ → Option (ℕ × ℕ) → Grid W → List Note
issue_notes tile None g = []
issue_notes tile (Some q) g =
    of_frame q.0 (λ f. Fires tile q.0 q.1 (operation (slot_of f.code q.1)) ∷ []) g.window.frames

-- beside `issues`
abbrev pub issues_notes : {W : Type 0} → List Block → ℕ → ℕ → Grid W → List Note
issues_notes blocks budget tile g = cond (g.units tile == 0)
    (issue_notes tile (eldest (ready blocks budget g tile) slots g.window.frames) g) []

-- beside `unit_turn`
abbrev pub turn_notes : {W : Type 0} → List Block → ℕ → ℕ → Grid W → List Note
turn_notes blocks budget tile g =
    unit_notes tile (g.units tile) g ++ issues_notes blocks budget tile (unit_on tile (g.units tile) g)

-- part (5): beside `works_on`
abbrev pub works_notes : {W : Type 0} → List Block → ℕ → Grid W → List Note
works_notes blocks budget g = of_each (unit_turn blocks budget) (turn_notes blocks budget) tiles g
