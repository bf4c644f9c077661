use Rattle.std.proofs.Common.{arith}
use Rattle.flat_lower.proofs.Emits.{two}
use Rattle.flat_lower.proofs.powers.put_rounded.Goals as goal

pub returns : goal.returns
returns c = let h = two c.in_ok-put_bias.ensures (two c.in_ok-put_two.ensures
    c.in_ok-put_biased.ensures) in grind (arith, h)
