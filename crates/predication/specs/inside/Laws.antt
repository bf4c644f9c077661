-- What `convert` gives: on every path tidy outputs, and from every start what the narrowed block does.
use Rattle.std.specs.Prelude.{◌≡◌, ℕ, ◌^◌, ◌<◌, ◌≤◌}
use Rattle.trips_isa.specs.Rule.{Answer}
use Rattle.ir_forms.specs.inside.HyperCode.{Block}
use Rattle.ir_forms.specs.inside.HyperRuns.{Layout}
use Rattle.ir_forms.specs.inside.HyperFits.{FitsHyper, exits_in}
use Rattle.ir_forms.specs.inside.FlowRuns.{Computes, OnPath}
use Rattle.ir_forms.specs.inside.FlowFits.{IsTidy, TakesAtMostOne, FitsFlow}
use Rattle.ir_forms.specs.inside.FlowRegular.{IsRegular}
use Rattle.hyper_narrow.specs.inside.NarrowedCode.{Narrowed}
use Rattle.hyper_narrow.specs.inside.NarrowedMeaning.{MeansNarrowed}
use Rattle.predication.specs.inside.Tails.{addressed, addressed_block, labelled}
use Rattle.predication.specs.inside.Converted.{begun, predicated}
use Rattle.predication.specs.inside.Labels.{resolved}

-- how many exits a block has room for
abbrev pub exit_count : ℕ
exit_count = 8

-- the load/store numbers and the exits that there are
pub record HasRoom (b : Block) : Type 0 where
  -- of loads and stores, over both legs of each if
  pub numbers : (begun b).number ≤ 32
  pub exits : exits_in b.tail ≤ exit_count

-- every address has 32 bits
abbrev pub HasShortAddresses : Layout → Type 0
HasShortAddresses at = (l : ℕ) → at.address l < 2 ^ 32

-- on every path: no null meets a guard, an operand has at most one token, a write and a number too,
-- and exactly one exit is taken
pub record Paths (c : Narrowed) (regs : ℕ → ℕ) (h : ℕ → Answer) : Type 0 where
  pub tidy : IsTidy regs h (predicated c)
  pub one : TakesAtMostOne regs h (predicated c)

-- without a bound on numbers and exits
abbrev pub ConvertsPaths : Type 0
ConvertsPaths =
    (c : Narrowed) → FitsHyper c.block → (regs : ℕ → ℕ) (f : Computes) (h : ℕ → Answer)
    → OnPath regs f h (predicated c) → Paths c regs h

-- from every start with words: the registers, the memory, the exit and the acts of the narrowed
-- block, for each layout, whose addresses stand in the block
abbrev pub ConvertsMeaning : Type 0
ConvertsMeaning =
    (at : Layout) (c : Narrowed) → HasShortAddresses at → FitsHyper c.block → HasRoom c.block
    → MeansNarrowed at c (predicated (addressed at c))

-- the fields fit, there is an order, and paths are as above
abbrev pub ConvertsFitting : Type 0
ConvertsFitting = (c : Narrowed) → FitsHyper c.block → HasRoom c.block → FitsFlow (predicated c)

-- what `target` wants besides
abbrev pub ConvertsRegular : Type 0
ConvertsRegular = (c : Narrowed) → FitsHyper c.block → HasRoom c.block → IsRegular (predicated c)

-- the passes take a block: it fits, and it has room
pub record IsTaken (b : Block) : Type 0 where
  pub fits : FitsHyper b
  pub room : HasRoom b

-- So in every layout whose addresses are short.
abbrev pub TakesAddressed : Type 0
TakesAddressed =
    (at : Layout) (b : Block) → HasShortAddresses at → FitsHyper b → HasRoom b
    → IsTaken (addressed_block at b)

-- the block that holds its labels becomes, once these are resolved, the block with addresses
abbrev pub ResolvesLabels : Type 0
ResolvesLabels =
    (at : Layout) (c : Narrowed) → HasShortAddresses at → FitsHyper c.block
    → resolved at.address (predicated (labelled c)) ≡ predicated (addressed at c)
