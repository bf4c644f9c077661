use Rattle.std.proofs.Common.{◌≡◌, length, reverse}
use Rattle.c_names.specs.Scope.{look_up}
use Rattle.c_names.proofs.scope.look_up_in.Given as goal

abbrev pub invariant-loop-entry : goal.invariant-loop-entry
invariant-loop-entry l =
    look_up l.fn.name (reverse l.fn.entries) ≡ look_up l.name (reverse l.rest)

abbrev pub decreases-loop-entry : goal.decreases-loop-entry
decreases-loop-entry l = length l.rest
