-- Worked rows of the definitions: a block of a constant, which is the address of a load that waits for nothing, and
-- whose token is the only output.
use Rattle.std.proofs.Common.{◌≡◌, ℕ, zero, suc, Bool, true, false, [], ◌∷◌, Some, None, refl}
use Rattle.operand_net.specs.declared.parcel.Stand.TheVariants.{Nowhere, Held}
use Rattle.trips_isa.specs.declared.form.Form.TheVariants as form
use Rattle.grid_cycle_spec.specs.Cycles.{begun_at}
use Rattle.grid_cycle_spec.specs.Grid.{Grid}
use Rattle.grid_bound.specs.inside.Course.{Plain, Serving, Task, Course, tasks}
use Rattle.grid_bound.specs.inside.Lane.{Phase, Idle, Working, Asking, Standing, Sent, Front, Stage, Running}
use Rattle.grid_bound.specs.inside.Lane.{Fetching}
use Rattle.grid_bound.specs.inside.Lane.{Lane}
use Rattle.grid_bound.specs.inside.Lane.{ready, complete}
use Rattle.grid_bound.specs.inside.Sending.{fresh, fetching, parcel}
use Rattle.grid_bound.specs.inside.Turning.{turning, own_units}
use Rattle.grid_bound.specs.inside.Moving.{moving, goes}
use Rattle.grid_bound.specs.inside.Answering.{answer_one}
use Rattle.grid_bound.specs.inside.Left.{parcel_left, task_left, wait_left, left, price, total}
use Rattle.grid_bound.specs.inside.Blocks.{kind_of, numbers_in, writes_of}
use Rattle.grid_bound.specs.inside.Seen.{lane_of}

-- task 0 is at tile 0, and task 1 at tile 1, which is a link away; its data tile is at node 5
abbrev two_tasks : ℕ → Task
two_tasks zero = record {
  kind = Plain;
  declared = true;
  met = true;
  needs = [];
  waits = [];
  tile = 0;
  here = 6;
  latency = 1;
  station = 0;
  served_at = 5;
  stores = false;
  first = Some (record { spot = 1; there = 7 });
  second = None;
}
two_tasks (suc k) = record {
  kind = Serving;
  declared = true;
  met = true;
  needs = 1 ∷ [];
  waits = [];
  tile = 1;
  here = 7;
  latency = 1;
  station = 0;
  served_at = 5;
  stores = false;
  first = Some (record { spot = 2; there = 1 });
  second = None;
}

abbrev tiny : Course
tiny = record { room = 2; task = two_tasks; outputs = 2 ∷ [] }

abbrev sizes : ℕ → ℕ
sizes n = tasks tiny

abbrev lane_at : Stage → Lane
lane_at s = record { stage = s; units = λ t. 0; done = 0 }

-- prices ------------------------------------------------------------------------------------------

pub tiny_price : price (tasks tiny) ≡ 1024
tiny_price = refl

pub three_blocks : total sizes 3 ≡ 3072
three_blocks = refl

-- a fetch that has not begun: ten cycles, 87 a task and 1, and as much again and more for a fetch anew
pub left_before : left sizes (lane_at (Fetching None false)) ≡ 697
left_before = refl

-- nothing is kept for a careful frame
pub left_careful : left sizes (lane_at (Fetching None true)) ≡ 185
left_careful = refl

-- (2) ---------------------------------------------------------------------------------------------

pub fetch_begins : fetching 0 tiny (Fetching None false) ≡ Fetching (Some 7) false
fetch_begins = refl

pub fetch_goes_on : fetching 0 tiny (Fetching (Some 7) false) ≡ Fetching (Some 6) false
fetch_goes_on = refl

abbrev filled : Front
filled = fresh 0 tiny false

pub fetch_fills : fetching 0 tiny (Fetching (Some 0) false) ≡ Running filled
fetch_fills = refl

-- the constant may be issued at once, to a unit that is free: 24 less
pub left_filled : left sizes (lane_at (Running filled)) ≡ 663
left_filled = refl

-- (5) ---------------------------------------------------------------------------------------------

pub only_the_constant : ready filled 0 ∷ ready filled 1 ∷ [] ≡ true ∷ false ∷ []
only_the_constant = refl

abbrev at_of : Stage → ℕ → Phase
at_of (Running f) x = f.at x
at_of (Fetching o s) x = Idle

abbrev issued_once : Stage
issued_once = turning (λ t. 0) (Running filled)

pub constant_issued : at_of issued_once 0 ∷ at_of issued_once 1 ∷ [] ≡ Working ∷ Idle ∷ []
constant_issued = refl

pub unit_taken : own_units (λ t. 0) (Running filled) 0 ≡ 1
unit_taken = refl

-- its result enters in the next cycle, and the unit is free
abbrev entered : Stage
entered = turning (λ t. 1) issued_once

pub token_entered : at_of entered 0 ≡ Sent (parcel 0 6 7) Nowhere
token_entered = refl

-- (6) ---------------------------------------------------------------------------------------------

-- it comes in that cycle where nothing holds it, and the load is ready
pub token_lands : at_of (moving (λ p. 0) entered) 0 ≡ Sent Nowhere Nowhere
token_lands = refl

abbrev ready_in : Stage → ℕ → Bool
ready_in (Running f) x = ready f x
ready_in (Fetching o s) x = false

pub load_is_ready : ready_in (moving (λ p. 0) entered) 1 ≡ true
load_is_ready = refl

-- held for three cycles, it stands as held
pub token_held : goes true 3 (parcel 0 6 7) ≡ Held (record { generation = 0; from = 6; to = 7 }) 3
token_held = refl

-- where an elder parcel wants its link it stays
pub token_waits : goes false 0 (parcel 0 6 7) ≡ parcel 0 6 7
token_waits = refl

-- a parcel whose ends are one node needs no link
pub token_at_home : goes false 0 (parcel 0 6 6) ≡ Nowhere
token_at_home = refl

-- (4) ---------------------------------------------------------------------------------------------

abbrev standing : Front
standing = record filled { at = λ x. Standing }

pub load_answered : (answer_one 1 standing).at 1 ≡ Sent (parcel 0 5 1) Nowhere
load_answered = refl

-- the output comes with the token, and then the frame is complete
pub not_yet : complete filled ≡ false
not_yet = refl

pub complete_then : complete (record filled { come = λ q. true }) ≡ true
complete_then = refl

pub one_cycle_left : left sizes (lane_at (Running (record filled { come = λ q. true }))) ≡ 1
one_cycle_left = refl

-- what is left ------------------------------------------------------------------------------------

pub parcels_left : parcel_left Nowhere ∷ parcel_left (parcel 0 0 24) ∷ [] ≡ 0 ∷ 12 ∷ []
parcels_left = refl

pub phases_left : task_left 3 Idle ∷ task_left 3 Working ∷ task_left 3
    (Asking (parcel 0 6 5)) ∷ task_left 3 Standing ∷ []
    ≡ 63 ∷ 41 ∷ 30 ∷ 25 ∷ []
phases_left = refl

-- four entries at a unit that is busy for five cycles: with a ready one, and without
pub waits_left : wait_left 5 true 4 ∷ wait_left 5 false 4 ∷ [] ≡ 77 ∷ 96 ∷ []
waits_left = refl

-- blocks ------------------------------------------------------------------------------------------

-- the numbers 0 and 2 of the mask 5
pub numbers_of_mask : numbers_in 5 3 ≡ 418 ∷ 416 ∷ []
numbers_of_mask = refl

pub two_writes : writes_of 2 ≡ 385 ∷ 384 ∷ []
two_writes = refl

pub loads_are_served : kind_of form.Load ≡ Serving
loads_are_served = refl

pub branches_are_plain : kind_of form.Branch ≡ Plain
branches_are_plain = refl

-- a grid at its start: nothing is fetched yet
abbrev at_start : Grid ℕ
at_start = begun_at (record { registers = []; memory = []; next = 4; rest = []; output = []; trace = [] }) [] 0

pub lane_at_start : (lane_of tiny at_start).stage ≡ Fetching None false
lane_at_start = refl
