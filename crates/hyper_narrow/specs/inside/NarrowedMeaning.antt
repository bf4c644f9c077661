-- A flow block that means what a narrowed block means: from the same start the same registers, data memory
-- and exit.
use Rattle.std.specs.Prelude.{◌≡◌, ℕ, ◌↔◌, List}
use Rattle.std.specs.List.{Contains}
use Rattle.trips_isa.specs.inside.Acts.{Act}
use Rattle.trips_isa.specs.Rule.{Answer}
use Rattle.ir_forms.specs.declared.flow.FlowBlock.{FlowBlock}
use Rattle.ir_forms.specs.inside.HyperRuns.{Machine, Layout, after_items, acts}
use Rattle.ir_forms.specs.inside.HyperWords.{HasWords}
use Rattle.ir_forms.specs.inside.FlowRuns.{AtStart, written, stored_all, exits, fired}
use Rattle.ir_forms.specs.inside.Agreement.{TakesExit}
use Rattle.hyper_narrow.specs.inside.NarrowedCode.{Narrowed}
use Rattle.hyper_narrow.specs.inside.NarrowedRuns.{after_narrowed, exit_from}

-- the same is done, in whatever order and however often
abbrev pub SameActs : List Act → List Act → Type 0
SameActs xs ys = (a : Act) → Contains xs a ↔ Contains ys a

-- what a table of the flow block comes to where the narrowed block begins at m
pub record ComesTo (at : Layout) (c : Narrowed) (f : FlowBlock) (m : Machine) (h : ℕ → Answer) : Type 0
  where
    -- each register that outlasts the block holds what it leaves there, each other what it held
    pub registers : (r : ℕ) → written m.registers h f.writes r ≡ (after_narrowed at c m).registers r
    -- the stores that fire, in the order of their numbers, do what the saves do in order
    pub memory : stored_all m.registers h f.nodes m.memory ≡ (after_narrowed at c m).memory
    -- the branch that fires is the exit that the tail's tests choose
    pub exit : TakesExit (exit_from c.block m) (after_items c.block.items m) (exits h 0 f.nodes)
    -- the same divisions and accesses are done, so that each fault stays and what is clean stays clean; what is done
    -- twice may be done once
    pub acts : SameActs (fired m.registers h f.nodes) (acts c.block.items m)

-- The flow block means the narrowed block from every machine that has words. From others it need not: of
-- an address in a register the flow block takes the low 64 bits.
abbrev pub MeansNarrowed : Layout → Narrowed → FlowBlock → Type 0
MeansNarrowed at c f =
    (m : Machine) (h : ℕ → Answer) → HasWords m → AtStart m.registers m.memory h f
    → ComesTo at c f m h

-- a narrowed block leaves words where it begins with words
abbrev pub LeavesWords : Layout → Narrowed → Type 0
LeavesWords at c = (m : Machine) → HasWords m → HasWords (after_narrowed at c m)
