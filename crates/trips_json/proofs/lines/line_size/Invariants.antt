use Rattle.std.proofs.Common.{◌≡◌, ◌+◌, drop}
use Rattle.trips_json.specs.Lines.{line_size}
use Rattle.trips_json.proofs.lines.line_size.Given as goal

-- the bytes so far, and those that still stand before a line feed
abbrev pub invariant-loop-i : goal.invariant-loop-i
invariant-loop-i l = l.i + line_size (drop l.i l.text) ≡ line_size l.text
