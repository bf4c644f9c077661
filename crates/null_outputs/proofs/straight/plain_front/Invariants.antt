use Rattle.std.proofs.Common.{◌≡◌, ◌+◌, drop}
use Rattle.null_outputs.specs.inside.Tested as tested
use Rattle.null_outputs.proofs.straight.plain_front.Given as goal

abbrev pub invariant-loop-n : goal.invariant-loop-n
invariant-loop-n l =
    (l.y ≡ l.n-index)
    × (l.y + tested.plain_front l.y (drop l.n-index l.nodes) ≡ tested.plain_front 0 l.nodes)
