use Rattle.std.proofs.Common.{◌≡◌, length}
use Rattle.c_tree.specs.Limits.{most_tokens}
use Rattle.c_library.specs.inside.Puts.{put_all}
use Rattle.c_sizes.specs.Sized.{sized, sized_from}
use Rattle.c_sizes.proofs.unit.put_sized.Given as goal

abbrev pub invariant-loop-rest : goal.invariant-loop-rest
invariant-loop-rest l =
    put_all most_tokens (sized l.fn.tokens) l.fn.out ≡ put_all most_tokens (sized_from l.walk l.skip l.rest) l.out

abbrev pub decreases-loop-rest : goal.decreases-loop-rest
decreases-loop-rest l = length l.rest
