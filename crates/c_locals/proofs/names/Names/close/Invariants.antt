use Rattle.std.proofs.Common.{◌≡◌, length}
use Rattle.c_locals.specs.Names.{around}
use Rattle.c_locals.proofs.names.Names.close.Given as goal

abbrev pub invariant-loop-self : goal.invariant-loop-self
invariant-loop-self l = around l.fn.block l.fn.self ≡ around l.block l.self

abbrev pub decreases-loop-self : goal.decreases-loop-self
decreases-loop-self l = length l.self
