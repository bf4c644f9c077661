use Rattle.std.proofs.Common.{◌≡◌, ◌++◌, take}
use Rattle.target_asm_spec.specs.Numbers.{numbered}
use Rattle.trips_report.specs.Runs.{station_line}
use Rattle.trips_report.proofs.lines.put_stations.Given as goal

-- the lines of those so far are written
abbrev pub invariant-loop-n : goal.invariant-loop-n
invariant-loop-n l = l.out.items ≡ l.initial.out.items ++ numbered station_line 0 (take l.n l.cycles)
