use Rattle.std.proofs.Common.{◌≡◌, length, reverse}
use Rattle.c_names.specs.Scope.{is_here}
use Rattle.c_names.proofs.scope.is_here_in.Given as goal

abbrev pub invariant-loop-entry : goal.invariant-loop-entry
invariant-loop-entry l =
    is_here l.fn.name (reverse l.fn.entries) ≡ is_here l.name (reverse l.rest)

abbrev pub decreases-loop-entry : goal.decreases-loop-entry
decreases-loop-entry l = length l.rest
