use Rattle.std.proofs.Common.{◌≡◌, take}
use Rattle.block_cases.specs.Orders.{has_load}
use Rattle.block_check.proofs.numbers.has_load.Given as goal

abbrev pub invariant-loop-k : goal.invariant-loop-k
invariant-loop-k l = l.found ≡ has_load (take l.k l.insts) l.number
