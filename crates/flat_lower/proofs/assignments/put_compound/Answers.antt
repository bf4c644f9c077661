use Rattle.std.proofs.Common.{arith}
use Rattle.flat_lower.proofs.Emits.{two}
use Rattle.flat_lower.proofs.assignments.put_compound.Goals as goal

pub returns : goal.returns
returns c = let h = two c.in_ok-put_binary.ensures c.in_ok-put_converted_here.ensures in grind (arith, h)
