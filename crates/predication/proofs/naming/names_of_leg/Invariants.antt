use Rattle.std.proofs.Common.{◌≡◌, ◌++◌, drop}
use Rattle.predication.proofs.naming.names_of_leg.Given as goal

abbrev pub invariant-loop-named : goal.invariant-loop-named
invariant-loop-named l = l.copies ++ drop l.named-index l.entries ≡ l.entries
