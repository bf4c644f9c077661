use Rattle.std.proofs.Common.{arith}
use Rattle.flat_lower.proofs.Emits.{two}
use Rattle.flat_lower.proofs.labels.put_either.Goals as goal

pub returns : goal.returns
returns c = let h = two c.in_ok-put_equal.ensures c.in_ok-put_let.ensures in grind (arith, h)
