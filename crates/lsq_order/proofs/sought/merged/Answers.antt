use Rattle.std.proofs.Common.{arith}
use Rattle.lsq_order.proofs.BitFacts.{merged}
use Rattle.lsq_order.proofs.sought.merged.Goals as goal

pub returns : goal.returns
returns c = λ i l. merged c.args.word c.args.other c.args.mask i (omega arith) l
