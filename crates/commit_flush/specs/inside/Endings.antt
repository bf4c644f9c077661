-- How a run has ended that was driven to its end.
use Rattle.std.specs.Prelude.{ℕ}
use Rattle.trips_isa.specs.declared.run.Ending.{Ending}
use Rattle.trips_isa.specs.declared.run.Ending.TheVariants as ending
use Rattle.trips_isa.specs.declared.run.Stepped.{Stepped}
use Rattle.trips_isa.specs.declared.run.Stepped.TheVariants as stepped
use Rattle.trips_isa.specs.Machine.{State}

-- the ending, where the last step came to this and this block is next: without a step that ended the run its budget
-- is spent; a trap leaves the block that faults as the next one
abbrev pub ending_of : Stepped → ℕ → Ending
ending_of stepped.Went next = ending.Budget
ending_of stepped.Ended next = ending.Ended
ending_of stepped.StackFull next = ending.StackFull
ending_of (stepped.Trap cause) next = ending.Trap next cause

-- the state and the ending of a run of the machine
abbrev pub ended : State × Stepped → State × Ending
ended r = (r.0, ending_of r.1 r.0.next)
