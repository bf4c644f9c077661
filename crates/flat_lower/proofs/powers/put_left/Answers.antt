use Rattle.std.proofs.Common.{arith}
use Rattle.flat_lower.proofs.Emits.{two}
use Rattle.flat_lower.proofs.powers.put_left.Goals as goal

pub returns : goal.returns
returns c = let h = two c.in_ok-put_let.ensures c.in_ok-put_two.ensures in grind (arith, h)
