-- The course of a block by a table of what its nodes give. Task s, below 128, is what slot s holds, and task 128 + r
-- is read r, so that the tokens of task x travel in the places 2 x and 2 x + 1. The spots are the places of the
-- block, its store numbers and its exit among them.
use Rattle.std.specs.Prelude.{ℕ, zero, suc, ◌+◌, ◌-◌, Bool, true, false, cond, nat_lt, List, [], ◌∷◌, ◌++◌}
use Rattle.std.specs.Prelude.{length, Option, Some, None, is_some, slice_get}
use Rattle.trips_isa.specs.declared.block.Inst.{Inst}
use Rattle.trips_isa.specs.declared.block.ReadSlot.{ReadSlot}
use Rattle.trips_isa.specs.declared.block.Block.{Block}
use Rattle.trips_isa.specs.declared.form.Form.{Form}
use Rattle.trips_isa.specs.declared.form.Form.TheVariants as form
use Rattle.trips_isa.specs.PlaceNumbers.{first_write, first_store, exit_place}
use Rattle.trips_isa.specs.Forms.{form_of, role_of, takes_left, takes_right, is_load, is_store}
use Rattle.trips_isa.specs.Operands.{is_guarded}
use Rattle.trips_isa.specs.Rule.{Answer}
use Rattle.trips_isa.specs.Places.{place_of, place_at, in_mask}
use Rattle.trips_isa.specs.Blocks.{at_place}
use Rattle.trips_isa.specs.Limits.{most_nodes}
use Rattle.block_cases.specs.Orders.{slot_of}
use Rattle.commit_flush_spec.specs.Frames.{slot_node, is_target}
use Rattle.grid_cycle_spec.specs.Stations.{control, bank_node, bank_of, data_node, home, tile_node, tile_of}
use Rattle.grid_cycle_spec.specs.Costs.{latency}
use Rattle.grid_cycle_spec.specs.DataTiles.{tile_by}
use Rattle.grid_bound.specs.inside.Course.{Kind, Reading, Plain, Serving, Target, Task, Course}

-- the tasks of the slots, and all tasks; not an `abbrev`, since a numeral unrolls recursions in goals
unfoldable pub slot_tasks : ℕ
slot_tasks = 128

-- the tasks of the slots, and of the 32 reads behind them
unfoldable pub room : ℕ
room = most_nodes

-- loads and stores have a request; a branch is done when it has arrived at the control tile
abbrev pub kind_of : Form → Kind
kind_of form.Load = Serving
kind_of form.Store = Serving
kind_of _ = Plain

-- a spot where it is one
abbrev pub if_so : Bool → ℕ → List ℕ → List ℕ
if_so true q qs = q ∷ qs
if_so false q qs = qs

-- the operands and the predicate that an instruction of slot s takes
abbrev pub needs_of : Inst → ℕ → List ℕ
needs_of i s = if_so (takes_left (role_of i.op)) s (if_so (takes_right (role_of i.op)) (128 + s)
    (if_so (is_guarded i.sense) (256 + s) []))

-- of the spots of the first n numbers those in a mask
abbrev pub numbers_in : ℕ → ℕ → List ℕ
numbers_in mask zero = []
numbers_in mask (suc n) = if_so (in_mask mask n) (first_store + n) (numbers_in mask n)

-- the stores that a load may have to see
abbrev pub waits_of : Block → Inst → List ℕ
waits_of b i = cond (is_load (form_of i.op)) (numbers_in b.mask i.number) []

-- the target at a place of the block, where it is one
abbrev pub target_at : Block → ℕ → Option Target
target_at b q = cond (is_target q) (Some (record { spot = q; there = home b q })) None

-- whom an instruction gives its token first: a store its number, at its data tile, and a branch the exit
abbrev pub first_of : Block → Form → Inst → ℕ → Option Target
first_of b form.Store i at = Some (record { spot = first_store + i.number; there = at })
first_of b form.Branch i at = Some (record { spot = exit_place; there = control })
first_of b _ i at = target_at b (place_at i.first)

-- there is no task
abbrev pub vacant : Task
vacant = record {
  kind = Plain;
  declared = false;
  met = false;
  needs = [];
  waits = [];
  tile = 0;
  here = 0;
  latency = 1;
  station = 0;
  served_at = 0;
  stores = false;
  first = None;
  second = None;
}

-- the task of what slot s holds, which is done where it gives a token
abbrev pub slot_task : Block → (ℕ → Answer) → ℕ → Option Inst → Task
slot_task b g s None = vacant
slot_task b g s (Some i) =
    let tile : ℕ = tile_by i (at_place b g s) in
    record {
      kind = kind_of (form_of i.op);
      declared = true;
      met = is_some (g (slot_node b s));
      needs = needs_of i s;
      waits = waits_of b i;
      tile = tile_of s;
      here = tile_node (tile_of s);
      latency = latency i.op;
      station = tile;
      served_at = data_node tile;
      stores = is_store (form_of i.op);
      first = first_of b (form_of i.op) i (data_node tile);
      second = target_at b (place_at i.second);
    }

-- the task of a read, which is always done
abbrev pub read_task : Block → Option ReadSlot → Task
read_task b None = vacant
read_task b (Some r) = record {
  kind = Reading;
  declared = true;
  met = true;
  needs = [];
  waits = [];
  tile = 0;
  here = bank_node (bank_of r.register);
  latency = 1;
  station = bank_of r.register;
  served_at = bank_node (bank_of r.register);
  stores = false;
  first = target_at b (place_of r.first);
  second = target_at b (place_at r.second);
}

-- the task of a number
abbrev pub task_of : Block → (ℕ → Answer) → ℕ → Task
task_of b g x = cond (nat_lt x slot_tasks) (slot_task b g x (slot_of b x))
    (read_task b (slice_get b.reads.items (x - slot_tasks)))

-- the spots of the first n writes
abbrev pub writes_of : ℕ → List ℕ
writes_of zero = []
writes_of (suc n) = (first_write + n) ∷ writes_of n

-- the outputs of a block: its writes, the numbers of its mask, and its exit
abbrev pub outputs_of : Block → List ℕ
outputs_of b = writes_of (length b.writes.items) ++ (numbers_in b.mask 32 ++ exit_place ∷ [])

-- the course of a block by a table
abbrev pub course_of : Block → (ℕ → Answer) → Course
course_of b g = record { room = room; task = task_of b g; outputs = outputs_of b }
