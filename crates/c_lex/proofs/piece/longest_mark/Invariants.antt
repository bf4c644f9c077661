use Rattle.std.proofs.Common.{◌≡◌, ◌≤◌, ◌<◌, length}
use Rattle.c_lex.specs.inside.Scans.{mark_from, mark_of}
use Rattle.c_lex.proofs.piece.longest_mark.Given as goal

abbrev pub invariant-loop-n : goal.invariant-loop-n
invariant-loop-n l = record {
  ahead : mark_from l.n l.text ≡ mark_of l.text;
  within : l.n ≤ length l.text;
  some : 0 < l.n;
}

abbrev pub decreases-loop-n : goal.decreases-loop-n
decreases-loop-n l = l.n
