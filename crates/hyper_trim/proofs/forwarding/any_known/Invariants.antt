use Rattle.std.proofs.Common.{◌≡◌, drop}
use Rattle.hyper_trim.specs.inside.Entries as list
use Rattle.hyper_trim.proofs.forwarding.any_known.Given as goal

abbrev pub invariant-loop-e : goal.invariant-loop-e
invariant-loop-e l = list.any_known l.to (drop l.e-index l.entries) ≡ list.any_known l.to l.entries
