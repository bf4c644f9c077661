use Rattle.std.proofs.Common.{refl, arith}
use Rattle.lsq_order.proofs.MaskFacts.{no_end, some_end, small_and}
use Rattle.lsq_order.proofs.masks.end_below.Goals as goal

pub returns-then-bits-eq0 : goal.returns-then-bits-eq0
returns-then-bits-eq0 c = no_end c.args.mask c.args.below _ c.requires refl (omega arith)

pub returns-else-bits-eq0 : goal.returns-else-bits-eq0
returns-else-bits-eq0 c =
    some_end c.args.mask c.args.below _ c.requires refl (omega arith) (small_and c.args.mask _ (omega arith))
