use Rattle.std.proofs.Common.{arith}
use Rattle.flat_lower.proofs.Emits.{two}
use Rattle.flat_lower.proofs.switching.comparing.Goals as goal

pub returns : goal.returns
returns c = let h = two c.in_ok-put_compared.ensures c.in_ok-put_left.ensures in grind (arith, h)
