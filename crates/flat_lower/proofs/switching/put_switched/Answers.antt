use Rattle.std.proofs.Common.{arith}
use Rattle.flat_lower.proofs.Emits.{two}
use Rattle.flat_lower.proofs.switching.put_switched.Goals as goal

pub returns : goal.returns
returns c = let h = two c.in_ok-put_chosen.ensures (two c.in_ok-put_run.ensures
    c.in_ok-put_behind.ensures) in grind (arith, h)
