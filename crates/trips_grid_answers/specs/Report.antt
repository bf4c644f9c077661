-- The reports of runs that the program writes, those of `trips_report`: of what the machine does, and of what was
-- counted, as far as the machine tells it.
use Rattle.std.specs.Prelude.{◌≡◌, ℕ, ◌+◌, ◌^◌, ◌<◌, ◌≤◌, true, List, length, slice_get, codes}
use Rattle.trips_isa.specs.declared.block.Block.{Block}
use Rattle.trips_isa.specs.declared.run.Ending.{Ending}
use Rattle.trips_isa.specs.declared.run.Ending.TheVariants as ending
use Rattle.trips_isa.specs.declared.run.Stepped.{Stepped}
use Rattle.trips_isa.specs.declared.run.Stepped.TheVariants as stepped
use Rattle.trips_isa.specs.declared.run.Traced.{Traced}
use Rattle.trips_isa.specs.Machine.{State, runs}
use Rattle.grid_cycle_spec.specs.Costs.{cost_in, cost_of, greatest_cost}
use Rattle.trips_report.specs.declared.measured.Measured.{Measured}
use Rattle.trips_report.specs.declared.show.Show.{Show}
use Rattle.trips_report.specs.Endings.{status_of}
use Rattle.trips_report.specs.Runs as reports
use Rattle.trips_report.specs.Runs.{plain_report}
use Rattle.trips_requests.specs.declared.status.Status.{Status}
use Rattle.trips_requests.specs.Texts.{IsFixed, output_and}

-- how a run ended, of which so many steps were made as the budget has, or fewer: a trap leaves the
-- block that faults as the next one
abbrev pub ending_of : Stepped → ℕ → Ending
ending_of stepped.Went next = ending.Budget
ending_of stepped.Ended next = ending.Ended
ending_of stepped.StackFull next = ending.StackFull
ending_of (stepped.Trap cause) next = ending.Trap next cause

-- the report of a run, from how it ended, the state at its end, what the grid counted and what the committed blocks
-- may cost, and what is shown behind it
abbrev pub shown_report : Ending → State → Measured → ℕ → Show → List ℕ
shown_report ending s measured cost show = reports.run_report ending s measured cost show

-- a report, and behind it what is shown of the end of the run
abbrev pub shown_behind : List ℕ → State → Measured → ℕ → Show → List ℕ
shown_behind report s measured cost show = reports.with_shown report s measured cost show

-- the report of a run where nothing is shown behind it
abbrev pub run_report : Ending → State → List ℕ
run_report ending s = plain_report ending s

-- the report of a run whose stack was full, with the output so far
abbrev pub full_report : List ℕ → List ℕ
full_report output = output_and output (codes "stack full")

-- what the block costs at which a run trapped, and nothing of any other run
abbrev pub trap_cost : List Block → Ending → ℕ
trap_cost blocks (ending.Trap block cause) = cost_in (slice_get blocks block)
trap_cost blocks _ = 0

-- What is counted of a run whose committed blocks are this trace, and which ended so. Whose counts they are stands in
-- `IsCountedFrom`: those of a grid that exactly so many cycles lead to from its start.
pub record CountsRun (blocks : List Block) (trace : List Traced) (show : Show) (ended : Ending) (measured : Measured)
    : Type 0 where
  -- each block of the trace is counted as committed, and no other
  pub committed : measured.counts.committed ≡ length trace
  -- each frame that was fetched has been committed or flushed
  pub fetched : measured.counts.fetched ≡ measured.counts.committed + measured.counts.flushed
  -- where the statistics are shown, each frame that was flushed was so for one of three causes, of fewer than 2^64
  pub flushed : show.stats ≡ true → measured.counts.flushed < 2 ^ 64 → measured.counts.flushed
      ≡ measured.statistics.violations + measured.statistics.wrong_exits + measured.statistics.ends
  -- there were no more cycles than the blocks of the trace cost, and besides the one that trapped
  pub within : measured.counts.cycles ≤ cost_of blocks trace + trap_cost blocks ended
  -- and so no more than that and the greatest cost of a block
  pub at_most : measured.counts.cycles ≤ cost_of blocks trace + greatest_cost

-- These tell the machine's run from a state, within so many blocks: the status how it ended, and the report what it
-- put out and how it ended, with what is shown behind that of its end, of its counts and of its statistics. Whose
-- statistics they are stands in `IsCountedFrom`.
abbrev pub TellsRunFrom : List Block → State → ℕ → Show → Status → List ℕ → Type 0
TellsRunFrom blocks t most show s report =
    let run = runs blocks t most in
    let ended = ending_of run.1 run.0.next in
    (measured : Measured) × CountsRun blocks run.0.trace show ended measured
    × IsFixed (status_of ended run.0) (shown_report ended run.0 measured (cost_of blocks run.0.trace) show) s report
