use Rattle.std.proofs.Common.{◌≡◌, drop}
use Rattle.flat_lower.specs.inside.Switches.{has_default}
use Rattle.flat_lower.proofs.switching.has_default.Given as goal

abbrev pub invariant-loop-label : goal.invariant-loop-label
invariant-loop-label l = has_default (drop l.label-index l.labels) ≡ has_default l.labels
