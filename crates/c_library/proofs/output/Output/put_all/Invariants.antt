use Rattle.std.proofs.Common.{◌≡◌, length}
use Rattle.c_tree.specs.Limits.{most_tokens}
use Rattle.c_library.specs.Places.{tokens}
use Rattle.c_library.specs.inside.Puts.{put_all}
use Rattle.c_library.proofs.output.Output.put_all.Given as goal

abbrev pub invariant-loop-rest : goal.invariant-loop-rest
invariant-loop-rest l =
    put_all most_tokens (tokens l.fn.at l.fn.forms) l.fn.self ≡ put_all most_tokens (tokens l.at l.rest) l.self

abbrev pub decreases-loop-rest : goal.decreases-loop-rest
decreases-loop-rest l = length l.rest
