use Rattle.std.proofs.Common.{arith}
use Rattle.flat_lower.proofs.Emits.{two}
use Rattle.flat_lower.proofs.assignments.put_compound_to_name.Goals as goal

pub returns : goal.returns
returns c = let h = two c.in_ok-put_compound.ensures c.in_ok-put_to_name.ensures in grind (arith, h)
