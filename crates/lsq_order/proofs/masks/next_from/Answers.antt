use Rattle.std.proofs.Common.{refl, arith}
use Rattle.lsq_order.proofs.MaskFacts.{no_next, some_next}
use Rattle.lsq_order.proofs.masks.next_from.Goals as goal

pub returns-then-rest-eq0 : goal.returns-then-rest-eq0
returns-then-rest-eq0 c = no_next c.args.mask c.args.from _ c.requires refl (omega arith)

pub returns-else-rest-eq0 : goal.returns-else-rest-eq0
returns-else-rest-eq0 c = some_next c.args.mask c.args.from _ refl (omega arith) (omega arith) (omega arith)
