use Rattle.std.proofs.Common.{arith}
use Rattle.block_check.proofs.Building.{has_item_more}
use Rattle.block_check.proofs.numbers.has_item.Goals as goal

pub loop-k-preserved : goal.loop-k-preserved
loop-k-preserved c = has_item_more c.args.items.now c.loop-k.k c.args.item c.loop-k.found _ (omega
    arith) c.loop-k.invariant c.either-found.ensures
