use Rattle.std.proofs.Common.{◌≡◌, ◌≤◌, drop}
use Rattle.target_file.specs.inside.Scanning.{told_from}
use Rattle.target_file.proofs.first_line.told_size.Given as goal

-- what the rest tells behind the size so far is what the line tells
abbrev pub invariant-loop-i : goal.invariant-loop-i
invariant-loop-i l = record {
  ahead : told_from l.size l.i (drop l.i l.line) ≡ told_from 0 0 l.line;
  within : l.size ≤ l.i;
}
