-- The grid's rule: what the bound of cycles asks of the grid beside the window's invariant. Every cycle keeps it.
use Rattle.std.specs.Prelude.{◌≡◌, ◌≢◌, ℕ, ◌<◌, ◌≤◌, ◌==◌, ◌&&◌, ◌||◌, not, Bool, true, false, List, [], ◌∷◌}
use Rattle.std.specs.Prelude.{Option, Some, None, slice_index, slice_index_or}
use Rattle.trips_isa.specs.declared.block.Block.{Block}
use Rattle.trips_isa.specs.declared.block.Inst.{Inst}
use Rattle.trips_isa.specs.declared.block.Stored.{Stored}
use Rattle.trips_isa.specs.Forms.{form_of, is_store}
use Rattle.block_cases.specs.Orders.{slot_of}
use Rattle.operand_net.specs.declared.parcel.Stand.{Stand}
use Rattle.operand_net.specs.declared.parcel.Stand.TheVariants.{Nowhere, Away, Held}
use Rattle.commit_flush_spec.specs.Frames.{Frame, at, token_places, target, is_target}
use Rattle.commit_flush_spec.specs.Older.{follows}
use Rattle.commit_flush_spec.specs.inside.Observers.{has_number}
use Rattle.commit_flush_spec.specs.inside.Work.{none_guessed}
use Rattle.grid_cycle_spec.specs.Stations.{tile_of}
use Rattle.grid_cycle_spec.specs.Costs.{fetch_latency}
use Rattle.grid_cycle_spec.specs.inside.Costs.{longest}
use Rattle.grid_cycle_spec.specs.Grid.{Grid, Fetching}
use Rattle.grid_cycle_spec.specs.Acting.{known_next}
use Rattle.grid_bound.specs.inside.UnderWay.{Nothing, Tied}

-- a condition holds of each of some frames
abbrev pub EachFrame : (Frame → Type 0) → List Frame → Type 0
EachFrame holds [] = Unit {0}
EachFrame holds (f ∷ fs) = holds f × EachFrame holds fs

-- whether one of some frames has a number and is not sealed
abbrev pub runs_in : ℕ → List Frame → Bool
runs_in n [] = false
runs_in n (f ∷ fs) = (f.number == n && not f.sealed) || runs_in n fs

-- frames ------------------------------------------------------------------------------------------

-- a store of a number comes from an instruction that has fired
pub record StoredBy (b : Block) (fired : List Bool) (n : ℕ) : Type 0 where
  -- the slot and the store in it
  pub slot : ℕ
  pub inst : Inst
  pub is_inst : slot_of b slot ≡ Some inst
  pub stores : is_store (form_of inst.op) ≡ true
  pub number : inst.number ≡ n
  pub has_fired : slice_index_or fired slot false ≡ true

-- what waits in a slot with a number is a load or a store, and no store has come for the number
pub record Waits (b : Block) (stores : List (Option Stored)) (n s : ℕ) : Type 0 where
  -- the load or the store in slot s
  pub inst : Inst
  pub is_inst : slot_of b s ≡ Some inst
  pub kind : has_number (form_of inst.op) ≡ true
  pub unresolved : at stores n ≡ None

-- a token on its way has a target, a store that has come was given by an instruction, and what waits is one that may
pub record FrameRule (f : Frame) : Type 0 where
  -- no token is sent to a place that takes none
  pub targets : (p : ℕ) → at f.places p ≢ None → is_target (target f.code p) ≡ true
  -- no store comes from nowhere
  pub stored : (n : ℕ) → at f.stores n ≢ None → StoredBy f.code f.fired n
  pub waits : (n s : ℕ) → at f.requests n ≡ Some s → Waits f.code f.stores n s

-- what is under way of a frame that runs is what is to be
abbrev pub RunsTied : {W : Type 0} → Grid W → Frame → Type 0
RunsTied g f = f.sealed ≡ false → Tied (g.parcels f.number) (g.asked f.number) (g.works f.number) f

-- no load of a careful frame was answered before a store of the frame that it may have to see
abbrev pub IsCareful : {W : Type 0} → Grid W → Frame → Type 0
IsCareful g f = g.careful f.number ≡ true → none_guessed f ≡ true

-- stations ----------------------------------------------------------------------------------------

-- units are busy for at most 24 cycles more; a unit that has a result is busy, and has no other result
pub record UnitsRule (units : ℕ → ℕ) (works : ℕ → ℕ → Bool) : Type 0 where
  -- at most 24, the latency of a division
  pub most : (t : ℕ) → units t ≤ longest
  -- slot s of frame n is in a unit that is busy
  pub busy : (n s : ℕ) → works n s ≡ true → 1 ≤ units (tile_of s)
  -- two results of one tile are one: of one frame and of one slot
  pub alone : (m n r s : ℕ) → works m r ≡ true → works n s ≡ true → tile_of r ≡ tile_of s → (m ≡ n) × (r ≡ s)

-- a parcel is on the mesh, and is held for so many cycles at least and 3 at most
abbrev pub HeldFrom : ℕ → Stand → Type 0
HeldFrom least Nowhere = Unit {0}
HeldFrom least (Away trip a) = (a < 25) × (trip.to < 25)
HeldFrom least (Held trip h) = (least ≤ h) × (h ≤ 3)

-- a fetch under way takes at most 7 cycles beyond the next, and is of a block that may come next; with no frame in
-- flight this is the committed next block
abbrev pub FetchRule : Option ℕ → Option Fetching → Type 0
FetchRule known None = Unit {0}
FetchRule known (Some f) = (f.left < fetch_latency) × (follows known f.block ≡ true)

-- the rule ----------------------------------------------------------------------------------------

-- the grid's rule, where what has come to its end on the mesh is held for so many cycles at least
pub record RuleFrom {W : Type 0} (least : ℕ) (g : Grid W) : Type 0 where
  -- what waits and what has come in each frame is one that may
  pub frames : EachFrame FrameRule g.window.frames
  -- what is under way of each running frame is what is to be
  pub tied : EachFrame (RunsTied g) g.window.frames
  -- no careful frame has guessed a load
  pub careful : EachFrame (IsCareful g) g.window.frames
  -- of a frame that is sealed or empty nothing is under way
  pub nothing : (n : ℕ) → runs_in n g.window.frames ≡ false → Nothing (g.parcels n) (g.asked n) (g.works n)
  pub units : UnitsRule g.units g.works
  -- each parcel is on the mesh, and is held for at most 3 cycles
  pub mesh : (n p : ℕ) → p < token_places → HeldFrom least (g.parcels n p)
  -- what is fetched may come next
  pub fetch : FetchRule (known_next g.window) g.fetching

-- the grid's rule: in parts (1) to (5) of a cycle and between cycles nothing has come and is held no longer, since it
-- has been delivered
abbrev pub GridRule : {W : Type 0} → Grid W → Type 0
GridRule g = RuleFrom 1 g

-- no frame has been filled more often than cycles have been made
abbrev pub GenerationsCounted : {W : Type 0} → Grid W → Type 0
GenerationsCounted g = (n : ℕ) → slice_index g.window.generations n ≤ g.counts.cycles
