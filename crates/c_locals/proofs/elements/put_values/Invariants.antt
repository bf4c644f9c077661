use Rattle.std.proofs.Common.{◌≡◌, ◌≤◌, ◌+◌, length}
use Rattle.c_tree.specs.Limits.{most_tokens}
use Rattle.c_library.specs.inside.Puts.{put_all}
use Rattle.c_locals.specs.Elements.{set_from}
use Rattle.c_locals.proofs.elements.put_values.Given as goal

abbrev pub invariant-loop-rest : goal.invariant-loop-rest
invariant-loop-rest l =
    record {
      value : put_all most_tokens (set_from l.fn.at l.fn.of 0 0 l.fn.values) l.fn.out
          ≡ put_all most_tokens (set_from l.at l.of l.index l.depth l.rest) l.out;
      index : l.index + length l.rest ≤ l.size;
      depth : l.depth + length l.rest ≤ l.size;
    }

abbrev pub decreases-loop-rest : goal.decreases-loop-rest
decreases-loop-rest l = length l.rest
