use Rattle.std.proofs.Common.{◌≡◌, ◌≤◌, ◌+◌, [], length}
use Rattle.c_tree.specs.Limits.{most_tokens}
use Rattle.c_library.specs.inside.Puts.{put_all}
use Rattle.c_locals.specs.Values.{beginning, walked}
use Rattle.c_locals.proofs.values.put_unit.Given as goal

abbrev pub invariant-loop-rest : goal.invariant-loop-rest
invariant-loop-rest l =
    record {
      value : put_all most_tokens (walked beginning [] [] l.fn.tokens) l.fn.out
          ≡ put_all most_tokens (walked l.walk l.held.words l.held.body l.rest) l.out;
      blocks : l.walk.blocks + length l.rest ≤ l.count;
      parens : l.walk.parens + length l.rest ≤ l.count;
    }

abbrev pub decreases-loop-rest : goal.decreases-loop-rest
decreases-loop-rest l = length l.rest
