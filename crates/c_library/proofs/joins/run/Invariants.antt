use Rattle.std.proofs.Common.{◌≡◌, ◌≤◌, ◌∷◌, length}
use Rattle.c_library.specs.Joined.{literal, joined}
use Rattle.c_library.proofs.joins.run.Given as goal

abbrev pub invariant-loop-rest : goal.invariant-loop-rest
invariant-loop-rest l = record {
  joined : joined (literal l.fn.offset l.fn.values.items ∷ l.fn.behind)
      ≡ joined (literal l.fn.offset l.values.items ∷ l.rest);
  left : length l.rest ≤ length l.fn.behind;
}

abbrev pub decreases-loop-rest : goal.decreases-loop-rest
decreases-loop-rest l = length l.rest
