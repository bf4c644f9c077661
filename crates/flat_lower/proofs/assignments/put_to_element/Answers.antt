use Rattle.std.proofs.Common.{arith}
use Rattle.flat_lower.proofs.Emits.{two}
use Rattle.flat_lower.proofs.assignments.put_to_element.Goals as goal

pub returns : goal.returns
returns c = let h = two c.in_ok-put_save.ensures c.in_ok-put_copy.ensures in grind (arith, h)
