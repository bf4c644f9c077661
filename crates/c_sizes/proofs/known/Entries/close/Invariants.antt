use Rattle.std.proofs.Common.{◌≡◌, length, reverse}
use Rattle.c_sizes.specs.Scopes.{closed}
use Rattle.c_sizes.proofs.known.Entries.close.Given as goal

abbrev pub invariant-loop-entry : goal.invariant-loop-entry
invariant-loop-entry l = closed l.fn.self ≡ closed (reverse l.self-inside.items.items)

abbrev pub decreases-loop-entry : goal.decreases-loop-entry
decreases-loop-entry l = length l.self-inside.items.items
