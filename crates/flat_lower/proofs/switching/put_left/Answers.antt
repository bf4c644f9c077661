use Rattle.std.proofs.Common.{arith}
use Rattle.flat_lower.proofs.Emits.{two}
use Rattle.flat_lower.proofs.switching.put_left.Goals as goal

pub returns : goal.returns
returns c = let h = two c.in_ok-put_word.ensures c.in_ok-put_break.ensures in grind (arith, h)
