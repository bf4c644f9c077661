use Rattle.std.proofs.Common.{◌≡◌, take}
use Rattle.block_cases.specs.Orders.{has_item}
use Rattle.block_check.proofs.numbers.has_item.Given as goal

abbrev pub invariant-loop-k : goal.invariant-loop-k
invariant-loop-k l = l.found ≡ has_item (take l.k l.items) l.item
