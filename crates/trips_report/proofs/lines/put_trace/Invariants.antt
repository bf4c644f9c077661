use Rattle.std.proofs.Common.{◌≡◌, ◌++◌, take}
use Rattle.std.specs.List.{flat_map}
use Rattle.trips_report.specs.Runs.{traced_line}
use Rattle.trips_report.proofs.lines.put_trace.Given as goal

-- the lines of those so far are written
abbrev pub invariant-loop-traced : goal.invariant-loop-traced
invariant-loop-traced l =
    l.out.items ≡ l.initial.out.items ++ flat_map traced_line (take l.traced-index l.trace)
