use Rattle.std.proofs.Common.{◌≡◌, ◌≤◌, length}
use Rattle.c_tree.specs.Limits.{most_tokens}
use Rattle.c_library.specs.inside.Puts.{put_all}
use Rattle.c_names.specs.Named.{named, named_in}
use Rattle.c_names.proofs.unit.put_named.Given as goal

abbrev pub invariant-loop-rest : goal.invariant-loop-rest
invariant-loop-rest l = record {
  goes : put_all most_tokens (named l.fn.tokens) l.fn.out
      ≡ put_all most_tokens (named_in l.turns l.names l.rest) l.out;
  few : length l.rest ≤ l.turns;
}

abbrev pub decreases-loop-rest : goal.decreases-loop-rest
decreases-loop-rest l = length l.rest
