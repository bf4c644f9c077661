use Rattle.std.proofs.Common.{arith}
use Rattle.flat_lower.proofs.Emits.{two}
use Rattle.flat_lower.proofs.names.put_element_of.Goals as goal

pub returns : goal.returns
returns c = let h = two c.in_ok-put_address.ensures c.in_ok-put_load.ensures in grind (arith, h)
