use Rattle.std.proofs.Common.{◌≡◌, ◌+◌, drop}
use Rattle.trips_json.specs.Lines.{name_size}
use Rattle.trips_json.proofs.lines.name_size.Given as goal

-- the bytes so far, and those of the name that still come
abbrev pub invariant-loop-i : goal.invariant-loop-i
invariant-loop-i l = l.i + name_size (drop l.i l.line) ≡ name_size l.line
