use Rattle.std.proofs.Common.{arith}
use Rattle.flat_lower.proofs.Emits.{two}
use Rattle.flat_lower.proofs.bumping.put_memory_before.Goals as goal

pub returns : goal.returns
returns c = let h = two c.in_ok-put_load.ensures (two c.in_ok-put_bumped.ensures
    c.in_ok-put_save.ensures) in grind (arith, h)
