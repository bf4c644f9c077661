-- Worked rows of driving: which event is next, and how much work is left.
use Rattle.std.proofs.Common.{◌≡◌, ℕ, ◌==◌, ◌||◌, true, false, List, [], ◌∷◌, Option, Some, None, pos, refl}
use Rattle.trips_isa.specs.declared.op.Op.TheVariants.{Genu, Bro, Lb, Sb}
use Rattle.trips_isa.specs.declared.op.Op.{Op}
use Rattle.trips_isa.specs.declared.block.Sense.TheVariants.{Always}
use Rattle.trips_isa.specs.declared.block.Token.TheVariants.{Word}
use Rattle.trips_isa.specs.declared.block.Spot.{Spot}
use Rattle.trips_isa.specs.declared.block.Spot.TheVariants.{Left, Write}
use Rattle.trips_isa.specs.declared.block.Inst.{Inst}
use Rattle.trips_isa.specs.declared.block.Block.{Block}
use Rattle.trips_isa.specs.Rule.{Answer}
use Rattle.trips_isa.specs.Machine.{State}
use Rattle.commit_flush_spec.specs.Frames.{Frame, Taken, NoBytes, numbers}
use Rattle.commit_flush_spec.specs.Older.{committed}
use Rattle.commit_flush_spec.specs.Window.{opened}
use Rattle.commit_flush_spec.specs.Window as event
use Rattle.commit_flush_spec.specs.inside.NextEvent.{lowest, slots, places, next_load, next_step, next_event}
use Rattle.commit_flush_spec.specs.inside.Observers.{is_asked}
use Rattle.commit_flush_spec.specs.inside.Work.{events_left, none_guessed, work}
use Rattle.commit_flush_spec.specs.DrivingLaws.{is_step_of}
use Rattle.commit_flush_spec.specs.inside.DrivingLaws.{is_guess}

pub lowest_of_some : lowest (λ k. (k == 3) || (k == 5)) 8 0 ≡ Some 3
lowest_of_some = refl

pub lowest_of_none : lowest (λ k. k == 9) 8 0 ≡ None
lowest_of_none = refl

-- a state whose next block is block 4
abbrev state : State
state = record { registers = []; memory = []; next = 4; rest = []; output = []; trace = [] }

pub first_a_fetch : next_event 1 (opened state) ≡ Some (event.Fetch 4)
first_a_fetch = refl

pub nothing_without_budget : next_event 0 (opened state) ≡ None
nothing_without_budget = refl

-- three blocks of at most 1,638 events, of which the first is to be fetched
pub work_of_three : work 3 (opened state) ≡ 5524
work_of_three = refl

-- the token of place 3 of frame 2 is delivered as token 643
pub step_of_frame : is_step_of 2 (event.Deliver 643) ≡ true
step_of_frame = refl

pub step_of_another : is_step_of 1 (event.Deliver 643) ≡ false
step_of_another = refl

-- frames ---------------------------------------------------------------------------------------

-- an instruction of an operation, a number and a target
abbrev inst : Op → ℕ → Option Spot → Option Inst
inst op n t = Some (record { op = op; sense = Always; imm = pos 0; number = n; first = t; second = None })

-- a constant for write 0, and a branch
abbrev code : Block
code = record {
  reads = record { items = [] };
  writes = record { items = 9 ∷ [] };
  mask = 0;
  insts = record { items = inst Genu 0 (Some (Write 0)) ∷ inst Bro 0 None ∷ [] };
}

-- frame 3 of a block in which nothing has fired, with lists that end behind their last thing
abbrev frame : Block → List Answer → List (Option ℕ) → List (Option Taken) → Frame
frame b places requests loads = record {
  number = 3;
  sealed = false;
  block = 0;
  code = b;
  spots = [];
  places = places;
  fired = false ∷ false ∷ [];
  reads = [];
  requests = requests;
  leaving = None;
  loads = loads;
  stores = [];
  exit = None;
  marks = record { spots = []; places = []; stores = []; exit = 0 };
}

-- the constant fires first
pub first_a_firing : next_step (committed state) (frame code [] [] []) ≡ Some (event.Fire 3 0)
unfolding places slots
first_a_firing = refl

-- a token on its way is delivered before the branch fires
pub then_a_token : next_step (committed state) (frame code (Some (Word 5) ∷ []) [] []) ≡ Some (event.Deliver 960)
unfolding places
then_a_token = refl

-- two instructions, a token and the Seal
pub ten_left : events_left (frame code (Some (Word 5) ∷ []) [] []) ≡ 10
ten_left = refl

-- a store of number 0, and a load of number 1 that waits
abbrev guessing : Frame
guessing = frame (record {
  reads = record { items = [] };
  writes = record { items = [] };
  mask = 1;
  insts = record { items = inst Sb 0 None ∷ inst Lb 1 (Some (Left 0)) ∷ [] };
}) [] (None ∷ Some 1 ∷ []) []

pub load_waits : is_asked guessing 1 ≡ true
load_waits = refl

-- to answer it before the store has come is a guess, which the next event never is
pub load_is_a_guess : is_guess guessing (event.Load 3 1) ≡ true
load_is_a_guess = refl

pub no_guess : next_load (committed state) guessing ≡ None
unfolding numbers
no_guess = refl

pub answered_careless : none_guessed (record guessing { loads = None ∷ Some NoBytes ∷ [] }) ≡ false
unfolding numbers
answered_careless = refl
