use Rattle.std.proofs.Common.{◌≡◌, drop}
use Rattle.null_outputs.specs.inside.Tested as tested
use Rattle.null_outputs.proofs.straight.all_fed.Given as goal

abbrev pub invariant-loop-w : goal.invariant-loop-w
invariant-loop-w l = tested.all_fed l.y (drop l.w-index l.writes) ≡ tested.all_fed l.y l.writes
