use Rattle.std.proofs.Common.{◌≡◌, length}
use Rattle.c_sizes.specs.Indexes.{are_known}
use Rattle.c_sizes.proofs.index.are_known.Given as goal

abbrev pub invariant-loop-rest : goal.invariant-loop-rest
invariant-loop-rest l = are_known l.fn.known l.fn.tokens ≡ are_known l.fn.known l.rest

abbrev pub decreases-loop-rest : goal.decreases-loop-rest
decreases-loop-rest l = length l.rest
