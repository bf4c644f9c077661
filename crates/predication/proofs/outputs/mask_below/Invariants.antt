use Rattle.std.proofs.Common.{◌≡◌}
use Rattle.predication.specs.inside.Made.{mask_members}
use Rattle.predication.proofs.outputs.mask_below.Given as goal

abbrev pub invariant-loop-number : goal.invariant-loop-number
invariant-loop-number l = l.mask ≡ mask_members l.found l.number
