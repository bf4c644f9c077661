-- A built program, and how its machine stands to a state of the flat program.
use Rattle.std.specs.Prelude.{◌≡◌, ℕ, ◌+◌, ◌%◌, ◌^◌, ◌<◌, ◌≤◌, Bool, true, List, [], ◌∷◌, length, Some}
use Rattle.std.specs.Prelude.{slice_get, slice_index}
use Rattle.trips_isa.specs.Stores.{data_size}
use Rattle.ir_forms.specs.inside.Frames.{frame_limit, frame_of, slots_of, register_of}
use Rattle.ir_forms.specs.inside.Cells.{Closed, Held, Checks}
use Rattle.ir_forms.specs.inside.FlatSteps.{State, Env}
use Rattle.ir_forms.specs.inside.FlatRuns.{env_of}
use Rattle.ir_forms.specs.inside.HyperCode.{Block}
use Rattle.ir_forms.specs.inside.HyperRuns.{Machine, Layout, run}
use Rattle.hyper_build.specs.inside.Tree.{Routine, function_of}

-- A program of blocks that was built from functions: whether its runs are checked for faults, where
-- its blocks are laid out, the label of each function, and where the frames begin.
pub record World : Type 0 where
  pub check : Bool
  pub at : Layout
  pub program : List Block
  pub routines : List Routine
  pub entries : ℕ → ℕ
  -- the address of the first frame, behind the globals
  pub base : ℕ

-- the flat program's run is tame, and clean where the built program's is
abbrev pub checks_of : World → Checks
checks_of W = record { tame = true; clean = W.check }

-- where a call of a function has its arrays, and what the frames take, where its own frame begins
-- `start` bytes above the first
abbrev pub env_in : World → ℕ → Routine → Env
env_in W start g = env_of W.base (function_of g) start

-- the bytes of a function's frame, and those of its slots
abbrev pub frame : Routine → ℕ
frame g = frame_of (function_of g)

-- a frame's bytes in front of its arrays: the return address, and the words of what calls keep
abbrev pub slots : Routine → ℕ
slots g = slots_of (function_of g)

-- the blocks stand in the program from label l on
abbrev pub Has : List Block → ℕ → List Block → Type 0
Has P l [] = Unit {0}
Has P l (b ∷ bs) = (slice_get P l ≡ Some b) × Has P (l + 1) bs

-- from b and m the machine comes to b' and m' in j blocks
pub record Goes (W : World) (b : Block) (m : Machine) (j : ℕ) (b' : Block) (m' : Machine) : Type 0
  where
    pub by : (n : ℕ)
        → run W.check W.at W.program (j + n) b m ≡ run W.check W.at W.program n b' m'

-- each byte is one
abbrev pub AreBytes : List ℕ → Type 0
AreBytes [] = Unit {0}
AreBytes (b ∷ rest) = (b < 256) × AreBytes rest

-- What a machine shares with a state in every function, where the active frames take `used` bytes.
pub record Stack (W : World) (used : ℕ) (s : State) (m : Machine) : Type 0 where
  -- the stack register has the end of the active frames
  pub top : m.registers 1 ≡ W.base + used
  -- data memory is whole
  pub sized : length m.memory ≡ data_size
  -- what may be loaded is the same, and bytes
  pub held : (a : ℕ) → a < data_size → (s.memory a).mark ≡ Held
      → slice_index m.memory a ≡ (s.memory a).byte
  pub bytes : (a : ℕ) → (s.memory a).mark ≡ Held → (s.memory a).byte < 256
  pub input : m.input ≡ s.input
  -- what is not read yet is bytes
  pub read : AreBytes s.input
  pub output : m.output ≡ s.output
  -- no frame is active from there on
  pub above : (a : ℕ) → W.base + used ≤ a → a < W.base + frame_limit → (s.memory a).mark ≡ Closed

-- And in function g, whose frame begins `start` bytes above the first.
pub record Rel (W : World) (start : ℕ) (g : Routine) (s : State) (m : Machine) : Type 0 where
  -- a variable that is set is a word in its register
  pub vars : (v x : ℕ) → v < 88 → s.vars v ≡ Some x
      → (m.registers (register_of v) ≡ x) × (x < 2 ^ 64)
  pub stack : Stack W (start + frame g) s m
  -- the program's own loads and stores leave the slots alone
  pub slots : (a : ℕ) → W.base + start ≤ a → a < W.base + start + slots g
      → (s.memory a).mark ≡ Closed

-- What is closed below lo stays closed, and the machine leaves it alone.
pub record Kept (lo : ℕ) (s : State) (m : Machine) (s' : State) (m' : Machine) : Type 0 where
  pub shut : (a : ℕ) → a < lo → (s.memory a).mark ≡ Closed → (s'.memory a).mark ≡ Closed
  -- its byte in the machine's memory stays
  pub same : (a : ℕ) → a < lo → (s.memory a).mark ≡ Closed
      → slice_index m'.memory a ≡ slice_index m.memory a

-- a frame of whole words, which has room
pub record IsFrame (W : World) (start : ℕ) (g : Routine) : Type 0 where
  pub words : start % 8 ≡ 0
  pub room : start + frame g ≤ frame_limit
  pub arrays : g.arrays % 8 ≡ 0
  -- their numbers end before those of temporaries
  pub scalars : g.scalars ≤ 64

-- a label is found again by its address, which is a word
pub record IsFaithful (at : Layout) (l : ℕ) : Type 0 where
  pub again : at.label (at.address l) ≡ l
  pub word : at.address l < 2 ^ 64
