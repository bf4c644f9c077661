use Rattle.std.proofs.Common.{◌≡◌, ◌++◌}
use Rattle.predication.specs.inside.Made.{members_below}
use Rattle.predication.proofs.outputs.members_below.Given as goal

abbrev pub decreases-loop-register : goal.decreases-loop-register
decreases-loop-register l = l.register

abbrev pub invariant-loop-register : goal.invariant-loop-register
invariant-loop-register l =
    l.reads ++ members_below l.found l.register ≡ members_below l.found l.count
