use Rattle.block_cases.specs.Orders.{NoneBelow, bad_inst}
use Rattle.block_check.proofs.targets.find_bad_used.Given as goal

abbrev pub invariant-loop-j : goal.invariant-loop-j
invariant-loop-j l = NoneBelow (bad_inst l.block) l.j
