-- Traces: which bytes are the trace of a run of so many blocks.
use Rattle.std.specs.Prelude.{◌≡◌, ℕ, zero, suc, ◌<◌, List, [], ◌++◌}
use Rattle.trips_isa.specs.declared.block.Block.{Block}
use Rattle.trips_isa.specs.declared.run.Stepped.{Stepped}
use Rattle.trips_isa.specs.declared.run.Stepped.TheVariants.{Went, Trap}
use Rattle.trips_isa.specs.Machine.{State, runs, start}
use Rattle.trace_verify.specs.Spelling.{front, end_bytes, entry_bytes}

-- the entries of the first k steps of a run
abbrev pub entries : List Block → State → ℕ → List ℕ
entries blocks s zero = []
entries blocks s (suc k) = entries blocks s k ++ entry_bytes blocks (runs blocks s k).0

-- a step that traps
abbrev pub Traps : Stepped → Type 0
Traps (Trap c) = Unit {0}
Traps _ = ⊥

-- each of the first k steps has an entry: none trapped, and none but the last ended the run
pub record HasEntries (blocks : List Block) (s : State) (k : ℕ) : Type 0 where
  -- before each of them the run went on
  pub on : (i : ℕ) → i < k → (runs blocks s i).1 ≡ Went
  -- and the last one did not trap
  pub last : Traps (runs blocks s k).1 → ⊥

-- the bytes are the trace of the first b steps of a run from a state
pub record IsTrace (blocks : List Block) (s : State) (b : ℕ) (bytes : List ℕ) : Type 0 where
  pub steps : HasEntries blocks s b
  pub spelled : bytes ≡ front ++ (entries blocks s b ++ end_bytes)

-- the bytes are the trace of an image's run on an input for b blocks
abbrev pub TraceBytes : List Block → List ℕ → List ℕ → ℕ → List ℕ → Type 0
TraceBytes blocks bytes input b = IsTrace blocks (start bytes input) b
