-- Part (5) of a cycle: units give their results to the mesh, and issue what is ready (docs/GRID.md, "A cycle").
-- A unit is a number for each tile, and its job a bit of a frame, so that a flush drops the frame and the unit
-- stays busy by itself.
use Rattle.std.specs.Prelude.{ℕ, zero, suc, ◌*◌, ◌==◌, Bool, false, cond, ◌&&◌, ◌||◌, List}
use Rattle.std.specs.Prelude.{Option, Some, None}
use Rattle.trips_isa.specs.declared.block.Inst.{Inst}
use Rattle.trips_isa.specs.declared.block.Block.{Block}
use Rattle.trips_isa.specs.declared.form.Form.{Form}
use Rattle.trips_isa.specs.declared.form.Form.TheVariants.{Load, Store, Branch}
use Rattle.trips_isa.specs.Forms.{form_of}
use Rattle.block_cases.specs.Orders.{slot_of}
use Rattle.commit_flush_spec.specs.Frames.{Frame, at}
use Rattle.commit_flush_spec.specs.Window.{Fire, happens}
use Rattle.grid_cycle_spec.specs.Stations.{control, tile_node, tile_of, tiles, data_node}
use Rattle.grid_cycle_spec.specs.Costs.{latency}
use Rattle.grid_cycle_spec.specs.Grid.{Grid}
use Rattle.grid_cycle_spec.specs.Acting.{may}
use Rattle.grid_cycle_spec.specs.Choosing.{eldest, each, slots, with_frame}
use Rattle.grid_cycle_spec.specs.DataTiles.{tile_by}
use Rattle.grid_cycle_spec.specs.Sending.{enters, enter_both}

-- results ----------------------------------------------------------------------------------------

-- what an instruction has enters the mesh at its tile: the request of a load or a store to its data tile, a branch
-- to control, and the tokens of any other
abbrev pub result_enters : {W : Type 0} → Form → Inst → ℕ → Frame → Grid W → Grid W
result_enters Load i s f g = enters f.number (2 * s) (tile_node (tile_of s)) (data_node (tile_by i (at f.spots s))) g
result_enters Store i s f g = enters f.number (2 * s) (tile_node (tile_of s)) (data_node (tile_by i (at f.spots s))) g
result_enters Branch i s f g = enters f.number (2 * s) (tile_node (tile_of s)) control g
result_enters _ i s f g = enter_both (tile_node (tile_of s)) f (2 * s) g

-- the same of what a slot holds
abbrev pub slot_enters : {W : Type 0} → Option Inst → ℕ → Frame → Grid W → Grid W
slot_enters None s f g = g
slot_enters (Some i) s f g = result_enters (form_of i.op) i s f g

-- the result of a slot of a frame is in no unit any more
abbrev pub rests : {W : Type 0} → ℕ → ℕ → Grid W → Grid W
rests n s g = record g { works = λ m k. cond ((m == n) && (k == s)) false (g.works m k) }

-- the result that was in a unit enters the mesh; none where its frame is there no longer
abbrev pub result_chosen : {W : Type 0} → Option (ℕ × ℕ) → Grid W → Grid W
result_chosen None g = g
result_chosen (Some q) g =
    with_frame q.0 (λ f h. slot_enters (slot_of f.code q.1) q.1 f (rests q.0 q.1 h)) g.window.frames g

-- whether the result of a slot of a frame is in the unit of a tile
abbrev pub in_unit : {W : Type 0} → Grid W → ℕ → Frame → ℕ → Bool
in_unit g tile f s = g.works f.number s && (tile_of s == tile)

-- a unit is busy for one cycle less, and gives its result where its time is over
abbrev pub unit_on : {W : Type 0} → ℕ → ℕ → Grid W → Grid W
unit_on tile zero g = g
unit_on tile (suc zero) g =
    result_chosen (eldest (in_unit g tile) slots g.window.frames)
    (record g { units = λ t. cond (t == tile) 0 (g.units t) })
unit_on tile (suc (suc left)) g = record g { units = λ t. cond (t == tile) (suc left) (g.units t) }

-- issues -----------------------------------------------------------------------------------------

-- whether a slot of a frame may fire on a tile
abbrev pub ready : {W : Type 0} → List Block → ℕ → Grid W → ℕ → Frame → ℕ → Bool
ready blocks budget g tile f s = (tile_of s == tile) && may blocks budget (Fire f.number s) g

-- how long what a slot holds takes
abbrev pub takes : Option Inst → ℕ
takes None = 0
takes (Some i) = latency i.op

-- a unit issues a slot of a frame, and is busy until its result is there
abbrev pub issued : {W : Type 0} → List Block → ℕ → ℕ → ℕ → ℕ → ℕ → Grid W → Grid W
issued blocks budget tile n s time g = record g {
  window = happens blocks budget (Fire n s) g.window;
  units = λ t. cond (t == tile) time (g.units t);
  works = λ m k. ((m == n) && (k == s)) || g.works m k;
}

-- a unit issues what has been chosen
abbrev pub issue_chosen : {W : Type 0} → List Block → ℕ → ℕ → Option (ℕ × ℕ) → Grid W → Grid W
issue_chosen blocks budget tile None g = g
issue_chosen blocks budget tile (Some q) g =
    with_frame q.0 (λ f h. issued blocks budget tile q.0 q.1 (takes (slot_of f.code q.1)) h) g.window.frames g

-- a free unit issues the eldest ready entry of its tile
abbrev pub issues : {W : Type 0} → List Block → ℕ → ℕ → Grid W → Grid W
issues blocks budget tile g = cond (g.units tile == 0)
    (issue_chosen blocks budget tile (eldest (ready blocks budget g tile) slots g.window.frames) g) g

-- turns ------------------------------------------------------------------------------------------

-- a tile gives its finished result to the mesh, then issues
abbrev pub unit_turn : {W : Type 0} → List Block → ℕ → ℕ → Grid W → Grid W
unit_turn blocks budget tile g = issues blocks budget tile (unit_on tile (g.units tile) g)

-- part (5)
abbrev pub works_on : {W : Type 0} → List Block → ℕ → Grid W → Grid W
works_on blocks budget g = each (unit_turn blocks budget) tiles g
