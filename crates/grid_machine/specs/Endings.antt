-- Whether a run of the grid goes on, and how it has ended (docs/GRID.md, "Runs").
use Rattle.std.specs.Prelude.{ℕ, Bool, false, cond, nat_lt, length, Option, Some, None}
use Rattle.trips_isa.specs.declared.run.Ending.{Ending}
use Rattle.trips_isa.specs.declared.run.Ending.TheVariants as ending
use Rattle.trips_isa.specs.declared.run.Stepped.{Stepped}
use Rattle.trips_isa.specs.declared.run.Stepped.TheVariants as stepped
use Rattle.commit_flush_spec.specs.Window.{Window}
use Rattle.grid_machine.specs.Going.{goes}

-- how a run ended whose last step came to this, and that makes no more steps: a trap leaves the block that faults as
-- the next one
abbrev pub ending_of : Stepped → ℕ → Ending
ending_of stepped.Went next = ending.Budget
ending_of stepped.Ended next = ending.Ended
ending_of stepped.StackFull next = ending.StackFull
ending_of (stepped.Trap cause) next = ending.Trap next cause

-- whether a run goes on: it has not ended, and fewer blocks have been committed than the budget has
abbrev pub is_going : ℕ → Window → Bool
is_going budget w = cond (goes w.over) (nat_lt (length w.state.trace) budget) false

-- how a run has ended, where it does not go on
abbrev pub ended : ℕ → Window → Option Ending
ended budget w = cond (is_going budget w) None (Some (ending_of w.over w.state.next))
