use Rattle.std.proofs.Common.{arith}
use Rattle.flat_lower.proofs.Emits.{two}
use Rattle.flat_lower.proofs.statements.put_initialised.Goals as goal

pub returns : goal.returns
returns c = let h = two c.in_ok-put_value.ensures c.in_ok-put_copy.ensures in grind (arith, h)
