use Rattle.std.proofs.Common.{arith}
use Rattle.flat_lower.proofs.Emits.{two}
use Rattle.flat_lower.proofs.operations.put_remainder.Goals as goal

pub returns : goal.returns
returns c = let h = two c.in_ok-put_two.ensures (two c.in_ok-put_two-2.ensures
    c.in_ok-put_two-3.ensures) in grind (arith, h)
