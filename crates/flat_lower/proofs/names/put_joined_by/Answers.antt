use Rattle.std.proofs.Common.{arith}
use Rattle.flat_lower.proofs.Emits.{two}
use Rattle.flat_lower.proofs.names.put_joined_by.Goals as goal

pub returns : goal.returns
returns c = let h = two c.in_ok-put_scaled.ensures c.in_ok-put_let.ensures in grind (arith, h)
