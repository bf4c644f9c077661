use Rattle.block_cases.specs.Orders.{NoneBelow, bad_read}
use Rattle.block_check.proofs.targets.find_bad_read.Given as goal

abbrev pub invariant-loop-i : goal.invariant-loop-i
invariant-loop-i l = NoneBelow (bad_read l.block) l.i
