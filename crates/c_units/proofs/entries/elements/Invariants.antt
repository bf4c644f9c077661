use Rattle.std.proofs.Common.{◌≡◌}
use Rattle.c_units.specs.Entries.{elements}
use Rattle.c_units.proofs.entries.elements.Given as goal

abbrev pub invariant-loop-index : goal.invariant-loop-index
invariant-loop-index l = l.out ≡ elements l.fn.at l.fn.given l.index
