use Rattle.std.proofs.Common.{◌≡◌, length}
use Rattle.c_tree.specs.Limits.{most_tokens}
use Rattle.c_library.specs.inside.Placed.{place_all}
use Rattle.c_library.proofs.output.Output.put_unit.Given as goal

abbrev pub invariant-loop-rest : goal.invariant-loop-rest
invariant-loop-rest l =
    place_all most_tokens l.fn.definitions l.fn.walk l.fn.tokens l.fn.self
    ≡ place_all most_tokens l.definitions l.walk l.rest l.self

abbrev pub decreases-loop-rest : goal.decreases-loop-rest
decreases-loop-rest l = length l.rest
