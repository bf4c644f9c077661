-- The trace of a whole run within a budget.
use Rattle.std.specs.Prelude.{◌≡◌, ℕ, ◌≤◌, List, [], slice_index}
use Rattle.trips_isa.specs.declared.block.Block.{Block}
use Rattle.trips_isa.specs.declared.run.Ending.{Ending}
use Rattle.trips_isa.specs.declared.run.Ending.TheVariants as ending
use Rattle.trips_isa.specs.declared.run.Stepped.{Stepped}
use Rattle.trips_isa.specs.declared.run.Stepped.TheVariants as stepped
use Rattle.trips_isa.specs.Machine.{State, runs}
use Rattle.trace_verify.specs.Traces.{HasEntries, IsTrace}

-- a step that traps has no entry
abbrev pub kept_unless : Stepped → List ℕ → List ℕ
kept_unless stepped.Went xs = xs
kept_unless stepped.Ended xs = xs
kept_unless stepped.StackFull xs = xs
kept_unless (stepped.Trap c) xs = []

-- how a run ended of which so many steps were made as the budget has, or fewer: a trap leaves the block that faults
-- as the next one
abbrev pub ending_of : Stepped → ℕ → Ending
ending_of stepped.Went next = ending.Budget
ending_of stepped.Ended next = ending.Ended
ending_of stepped.StackFull next = ending.StackFull
ending_of (stepped.Trap cause) next = ending.Trap next cause

-- The bytes are the longest trace of a run from a state within a budget, and this is how the run ends, with this word
-- in register 3.
pub record IsRecorded (blocks : List Block) (s : State) (budget : ℕ) (bytes : List ℕ) (ended : Ending) (word : ℕ)
    : Type 0 where
  pub blocks_run : ℕ
  pub trace : IsTrace blocks s blocks_run bytes
  pub within : blocks_run ≤ budget
  pub greatest : (n : ℕ) → n ≤ budget → HasEntries blocks s n → n ≤ blocks_run
  pub ending : ended ≡ ending_of (runs blocks s budget).1 (runs blocks s budget).0.next
  pub result : word ≡ slice_index (runs blocks s budget).0.registers 3
