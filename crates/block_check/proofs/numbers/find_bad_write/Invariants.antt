use Rattle.block_cases.specs.Orders.{NoneBelow, bad_write}
use Rattle.block_check.proofs.numbers.find_bad_write.Given as goal

abbrev pub invariant-loop-w : goal.invariant-loop-w
invariant-loop-w l = NoneBelow (bad_write l.block) l.w
