use Rattle.std.proofs.Common.{◌≡◌, length}
use Rattle.c_tree.specs.Limits.{most_tokens}
use Rattle.c_library.specs.inside.Puts.{put_all}
use Rattle.c_names.specs.Pieces.{spelled}
use Rattle.c_names.proofs.piece.put_spelled.Given as goal

abbrev pub invariant-loop-rest : goal.invariant-loop-rest
invariant-loop-rest l =
    put_all most_tokens (spelled l.fn.at l.fn.all) l.fn.out ≡ put_all most_tokens (spelled l.at l.rest) l.out

abbrev pub decreases-loop-rest : goal.decreases-loop-rest
decreases-loop-rest l = length l.rest
