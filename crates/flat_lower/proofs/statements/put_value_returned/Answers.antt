use Rattle.std.proofs.Common.{arith}
use Rattle.flat_lower.proofs.Emits.{two}
use Rattle.flat_lower.proofs.statements.put_value_returned.Goals as goal

pub returns : goal.returns
returns c = let h = two c.in_ok-put_value.ensures c.in_ok-put_return.ensures in grind (arith, h)
