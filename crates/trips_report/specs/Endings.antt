-- The status of a run, by how it ended and by the state at its end.
use Rattle.std.specs.Prelude.{ℕ, slice_index}
use Rattle.trips_isa.specs.declared.run.Ending.{Ending}
use Rattle.trips_isa.specs.declared.run.Ending.TheVariants as ending
use Rattle.trips_isa.specs.Machine.{State}
use Rattle.trips_requests.specs.declared.status.Status.{Status}
use Rattle.trips_requests.specs.declared.status.Status.TheVariants as status
use Rattle.trips_requests.specs.Results.{end_status}

-- the status that tells an ending, of register 3
abbrev pub status_by : Ending → ℕ → Status
status_by ending.Ended word = end_status word
status_by ending.StackFull word = status.StackFull
status_by ending.Budget word = status.Budget
status_by (ending.Trap block cause) word = status.Trap

-- that of a run which ended so in a state
abbrev pub status_of : Ending → State → Status
status_of ending s = status_by ending (slice_index s.registers 3)
