use Rattle.std.proofs.Common.{◌≡◌, ◌++◌, take}
use Rattle.std.specs.List.{flat_map}
use Rattle.trips_event_lines.specs.Lines.{line}
use Rattle.trips_event_lines.proofs.lines.put_lines.Given as goal

-- the lines of those so far are written
abbrev pub invariant-loop-entry : goal.invariant-loop-entry
invariant-loop-entry l =
    l.out.items ≡ l.initial.out.items ++ flat_map line (take l.entry-index l.entries)
