use Rattle.block_cases.specs.Orders.{NoneBelow, bad_number}
use Rattle.block_check.proofs.numbers.find_number_used.Given as goal

abbrev pub invariant-loop-j : goal.invariant-loop-j
invariant-loop-j l = NoneBelow (bad_number l.block) l.j
