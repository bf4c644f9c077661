use Rattle.std.proofs.Common.{arith}
use Rattle.flat_lower.proofs.Emits.{two}
use Rattle.flat_lower.proofs.bumping.put_scalar_after.Goals as goal

pub returns : goal.returns
returns c = let h = two c.in_ok-put_copy.ensures c.in_ok-put_bumped.ensures in grind (arith, h)
