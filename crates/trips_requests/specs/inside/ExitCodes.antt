-- The number with which the program ends, by its status.
use Rattle.std.specs.Prelude.{ℕ}
use Rattle.trips_requests.specs.declared.status.Status.{Status}
use Rattle.trips_requests.specs.declared.status.Status.TheVariants as status

-- the number of each status, as the manual page has them (docs/trips.1)
abbrev pub number_of : Status → ℕ
number_of status.Ended = 0
number_of status.Usage = 2
number_of status.ReadFault = 3
number_of status.Refused = 4
number_of status.Budget = 5
number_of status.StackFull = 6
number_of status.WriteFault = 7
number_of status.Memory = 8
number_of status.Trap = 9
number_of status.Undefined = 10
number_of status.Aborted = 11
