use Rattle.std.proofs.Common.{◌≡◌, ◌≤◌, ◌+◌, ◌-◌, length}
use Rattle.target_file.specs.Bare.{left_out, lines_of}
use Rattle.target_file.proofs.line_in_file.place_in_file.Given as goal

abbrev pub invariant-loop-rest : goal.invariant-loop-rest
invariant-loop-rest l = record {
  -- the lines that were left out so far are counted, and those of the rest are still to come
  ahead : l.at + left_out l.behind (lines_of l.rest) ≡ l.line + left_out (l.line - 1) (lines_of l.text);
  room : l.at + length l.rest ≤ l.line + length l.text;
}

abbrev pub decreases-loop-rest : goal.decreases-loop-rest
decreases-loop-rest l = length l.rest
