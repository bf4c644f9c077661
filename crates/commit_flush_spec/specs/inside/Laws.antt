-- Beside what is believed of Laws.antt: the invariant of the window, and the laws of its events.
use Rattle.std.specs.List.{list_any}
use Rattle.std.specs.Prelude.{◌≡◌, ◌≢◌, ℕ, ◌<◌, ◌≤◌, true, List, [], ◌∷◌, ◌++◌, length, Some, None, ◌⊎◌}
use Rattle.std.specs.Prelude.{false, slice_index_or, map, ◌==◌}
use Rattle.trips_isa.specs.declared.block.Inst.{Inst}
use Rattle.trips_isa.specs.declared.block.Block.{Block}
use Rattle.trips_isa.specs.declared.form.Form.TheVariants.{Branch}
use Rattle.trips_isa.specs.Forms.{form_of, is_load, is_store}
use Rattle.trips_isa.specs.Stores.{data_size}
use Rattle.trips_isa.specs.Machine.{State}
use Rattle.commit_flush_spec.specs.Frames.{Frame, at, target, is_target}
use Rattle.commit_flush_spec.specs.Older.{committed}
use Rattle.commit_flush_spec.specs.Window.{Window}
use Rattle.commit_flush_spec.specs.inside.Invariant.{FramesOk, has_sent}
use Rattle.block_cases.specs.Orders.{slot_of}

-- a committed state has 128 registers and the whole of data memory
pub record IsWhole (s : State) : Type 0 where
  pub registers : length s.registers ≡ 128
  pub memory : length s.memory ≡ data_size

-- what an instruction of a frame has sent stands in its place, its spot, its number or the exit
pub record NoneLost (f : Frame) : Type 0 where
  -- a token that was sent is on its way, or has arrived at its place of the block
  pub tokens : (p : ℕ) → has_sent f p ≡ true → is_target (target f.code p) ≡ true
      → (at f.places p ≢ None) ⊎ (at f.spots (target f.code p) ≢ None)
  -- a load that has fired is answered, or waits with its number
  pub loads : (s : ℕ) (i : Inst) → slot_of f.code s ≡ Some i → is_load (form_of i.op) ≡ true
      → slice_index_or f.fired s false ≡ true
      → (at f.loads i.number ≢ None) ⊎ (at f.requests i.number ≡ Some s)
  -- a store that has fired is resolved, or waits with its number
  pub stores : (s : ℕ) (i : Inst) → slot_of f.code s ≡ Some i → is_store (form_of i.op) ≡ true
      → slice_index_or f.fired s false ≡ true
      → (at f.stores i.number ≢ None) ⊎ (at f.requests i.number ≡ Some s)
  -- a branch that has fired has made the exit known, or waits
  pub exits : (s : ℕ) (i : Inst) → slot_of f.code s ≡ Some i → form_of i.op ≡ Branch
      → slice_index_or f.fired s false ≡ true → (f.exit ≢ None) ⊎ (f.leaving ≡ Some s)

-- the invariant's part `no token lost`, of the frames that run
abbrev pub AllKept : List Frame → Type 0
AllKept [] = Unit {0}
AllKept (f ∷ fs) = (f.sealed ≡ false → NoneLost f) × AllKept fs

-- the numbers of frames are of the eight, and no two are the same
abbrev pub AreNumbers : List ℕ → Type 0
AreNumbers [] = Unit {0}
AreNumbers (n ∷ ns) = (n < 8) × (list_any (λ m. m == n) ns ≡ false) × AreNumbers ns

-- the invariant of the window
pub record WindowOk (blocks : List Block) (budget : ℕ) (w : Window) : Type 0 where
  -- each frame is right over what it sees of older frames and of the committed state
  pub frames : FramesOk blocks (committed w.state) w.frames
  -- no token of a running frame is lost
  pub kept : AllKept w.frames
  -- each frame in flight is another one of the eight
  pub numbers : AreNumbers (map (λ (f : Frame). f.number) w.frames)
  -- the committed registers and memory have their full lengths
  pub whole : IsWhole w.state
  -- no more blocks were committed than the budget allows
  pub spent : length w.state.trace ≤ budget
  -- the committed next block is one of the image
  pub next : w.state.next < length blocks

-- law one token: a token on its way never finds another one at the place that it goes to
abbrev pub IsFree : Frame → Type 0
IsFree f = (p : ℕ) → at f.places p ≢ None → is_target (target f.code p) ≡ true
    → at f.spots (target f.code p) ≡ None

-- so in every frame
abbrev pub AllFree : List Frame → Type 0
AllFree [] = Unit {0}
AllFree (f ∷ fs) = IsFree f × AllFree fs

-- the frames that are left are the first ones, unchanged
abbrev pub IsBeginning : List Frame → List Frame → Type 0
IsBeginning left all = (rest : List Frame) × (all ≡ left ++ rest)
