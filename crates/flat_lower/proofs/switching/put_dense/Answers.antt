use Rattle.std.proofs.Common.{arith}
use Rattle.flat_lower.proofs.Emits.{two}
use Rattle.flat_lower.proofs.switching.put_dense.Goals as goal

pub returns : goal.returns
returns c =
    let h = two c.in_ok-put_let.ensures (two c.in_ok-put_let-2.ensures c.in_ok-put_if.ensures) in
    let e = c.in_ok-put_word.ensures.is in
    grind (arith, h, e)
