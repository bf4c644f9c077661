use Rattle.std.proofs.Common.{arith}
use Rattle.flat_lower.proofs.Emits.{two}
use Rattle.flat_lower.proofs.bumping.put_at_element.Goals as goal

pub returns : goal.returns
returns c = let h = two c.in_ok-put_address.ensures c.in_ok-put_in_memory.ensures in grind (arith, h)
