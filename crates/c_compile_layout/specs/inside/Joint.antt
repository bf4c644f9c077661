-- What the passes must give of each block, and how a run of the narrowed program is a run of the image.
use Rattle.std.specs.Prelude.{◌≡◌, ℕ, ◌≤◌, Bool, true, List, map, length, slice_get}
use Rattle.std.specs.Prelude.{slice_index, Some}
use Rattle.trips_isa.specs.declared.block.Block.{Block}
use Rattle.trips_isa.specs.declared.run.Stepped.{Stepped}
use Rattle.trips_isa.specs.declared.run.Stepped.TheVariants as stepped
use Rattle.trips_isa.specs.inside.Acts.{is_clean, IsClean}
use Rattle.trips_isa.specs.Blocks.{token_of}
use Rattle.trips_isa.specs.Images.{chunk_of}
use Rattle.trips_isa.specs.Machine.{State, start, runs}
use Rattle.trips_isa.specs.Rule.{Answer}
use Rattle.trips_isa.specs.Stores.{data_size}
use Rattle.trips_isa.specs.Tables.{deepest}
use Rattle.block_cases.specs.inside.Plain.{plain_runs}
use Rattle.ir_forms.specs.declared.flow.FlowBlock.{FlowBlock}
use Rattle.ir_forms.specs.inside.FlowRuns.{AtStart, fired}
use Rattle.ir_forms.specs.inside.HyperFits.{AllLeadOn}
use Rattle.ir_forms.specs.inside.HyperRuns.{Machine, Layout}
use Rattle.ir_forms.specs.inside.HyperRuns.{Standing, Running, Ended, Full, Unclean}
use Rattle.ir_forms.specs.inside.HyperWords.{AreBytes}
use Rattle.hyper_narrow.specs.inside.NarrowedCode.{Narrowed}
use Rattle.hyper_narrow.specs.inside.NarrowedMeaning.{MeansNarrowed, LeavesWords}
use Rattle.hyper_narrow.specs.inside.NarrowedRuns.{narrowed_run}
use Rattle.fan_out.specs.inside.Targeted.{register_of}
use Rattle.fan_out.specs.inside.Means.{MeansFlow, WritesAsFlow}
use Rattle.c_compile_layout.specs.inside.Linking.{resolved, by_offset}
use Rattle.c_compile_layout.specs.inside.Layouts.{laid_out, AreFew}

-- WHAT THE PASSES GIVE

-- each entry state has a table of the flow block
abbrev pub HasStarts : FlowBlock → Type 0
HasStarts f =
    (regs : ℕ → ℕ) (mem : List ℕ) → (h : ℕ → Answer) × AtStart regs mem h f

-- where nothing faults of what the flow block does, nothing faults of what the machine block does
abbrev pub CleanAsFlow : FlowBlock → Block → Type 0
CleanAsFlow f t =
    (regs mem : List ℕ) (h : ℕ → Answer) → AtStart (slice_index regs) mem h f
    → is_clean (fired (slice_index regs) h f.nodes) ≡ true
    → IsClean t (token_of t regs mem deepest)

-- t is the machine block of block k of n, a narrowed block b, where blocks begin at these chunks: it
-- means a flow block that means b, once the labels in that block's branches are resolved
pub record IsMade (at : Layout) (chunk : ℕ → ℕ) (k n : ℕ) (b : Narrowed) (t : Block) : Type 0
  where
    -- its constants hold addresses, and its branches labels
    pub flow : FlowBlock
    pub starts : HasStarts flow
    pub means : MeansNarrowed at b flow
    -- registers and memory go on as words and bytes
    pub keeps : LeavesWords at b
    -- to one of the n blocks, and back to the block behind
    pub exits : AllLeadOn k n b.block.tail
    -- the machine block comes to what the flow block's table says, with offsets in its branches
    pub outcome : MeansFlow (resolved (by_offset chunk k) flow) t
    pub clean : CleanAsFlow (resolved (by_offset chunk k) flow) t
    -- all its writes at once leave what its table says
    pub writes : WritesAsFlow flow
    pub registers : t.writes.items ≡ map register_of flow.writes

-- ts are the machine blocks of a narrowed program, as they stand in an image
pub record AreMade (B : List Narrowed) (ts : List Block) : Type 0 where
  pub size : length ts ≡ length B
  pub some : 1 ≤ length ts
  -- an image has room for `most_chunks` chunks
  pub few : AreFew ts
  -- in the layout that these blocks have
  pub each : (k : ℕ) (b : Narrowed) (t : Block) → slice_get B k ≡ Some b
      → slice_get ts k ≡ Some t → IsMade (laid_out ts) (chunk_of ts) k (length ts) b t

-- THE SAME STATE

-- the hyper machine before block k as a state of the sequential machine
pub record Same (m : Machine) (k : ℕ) (s : State) : Type 0 where
  pub count : length s.registers ≡ 128
  pub registers : (r : ℕ) → slice_index s.registers r ≡ m.registers r
  pub memory : s.memory ≡ m.memory
  pub input : s.rest ≡ m.input
  pub output : s.output ≡ m.output
  -- the number of the block that comes next
  pub next : s.next ≡ k

-- how the run of an image stands where the narrowed program's stands so; where something faulted, it
-- says nothing
abbrev pub StandsIn : Standing → State × Stepped → Type 0
StandsIn (Running out) r = (r.1 ≡ stepped.Went) × ((r.0).output ≡ out)
StandsIn (Ended out w) r =
    (r.1 ≡ stepped.Ended) × ((r.0).output ≡ out) × (slice_index (r.0).registers 3 ≡ w)
StandsIn (Full out) r = (r.1 ≡ stepped.StackFull) × ((r.0).output ≡ out)
StandsIn Unclean r = Unit {0}

-- n blocks of the narrowed program, checked for faults, are n blocks of the image
abbrev pub DoesTheSame : List Narrowed → List Block → Type 0
DoesTheSame B ts =
    (bytes input : List ℕ) (n : ℕ) → AreBytes bytes → AreBytes input → length bytes ≤ data_size
    → StandsIn (narrowed_run true (laid_out ts) B bytes input n) (runs ts (start bytes input) n)

-- n blocks of the narrowed program, checked or not, are n blocks of the image whose marks nothing
-- looks at
abbrev pub DoesPlainly : List Narrowed → List Block → Type 0
DoesPlainly B ts =
    (check : Bool) (bytes input : List ℕ) (n : ℕ) → AreBytes bytes → AreBytes input
    → length bytes ≤ data_size
    → StandsIn (narrowed_run check (laid_out ts) B bytes input n)
    (plain_runs ts (start bytes input) n)
