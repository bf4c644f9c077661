use Rattle.std.proofs.Common.{arith}
use Rattle.flat_lower.proofs.Emits.{two}
use Rattle.flat_lower.proofs.assignments.put_old_element.Goals as goal

pub returns : goal.returns
returns c = let h = two c.in_ok-put_address.ensures (two c.in_ok-put_load.ensures
    c.in_ok-put_converted_here.ensures) in grind (arith, h)
