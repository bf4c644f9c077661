use Rattle.std.proofs.Common.{arith, ◌<◌}
use Rattle.lsq_order.proofs.TakingFacts.{room}
use Rattle.lsq_order.proofs.sought.bytes_of.Goals as goal

pub overflow_mul-bytes : goal.overflow_mul-bytes
overflow_mul-bytes c =
    let r : c.loop-k.bytes < 72057594037927936 =
    room c.loop-k.bytes c.loop-k.k c.loop-k.invariant.small (omega arith) in omega (arith, r)

pub overflow_add-bytes : goal.overflow_add-bytes
overflow_add-bytes c =
    let r : c.loop-k.bytes < 72057594037927936 =
    room c.loop-k.bytes c.loop-k.k c.loop-k.invariant.small (omega arith) in omega (arith, r)
