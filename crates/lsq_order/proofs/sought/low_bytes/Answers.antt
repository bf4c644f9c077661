use Rattle.std.proofs.Common.{arith}
use Rattle.lsq_order.proofs.BitFacts.{low_bytes_few, low_bytes_all}
use Rattle.lsq_order.proofs.sought.low_bytes.Goals as goal

pub returns-then-n-lt8 : goal.returns-then-n-lt8
returns-then-n-lt8 c = λ i l. low_bytes_few c.args.n i (omega arith)

pub returns-else-n-lt8 : goal.returns-else-n-lt8
returns-else-n-lt8 c = λ i l. low_bytes_all c.args.n i (omega arith) l
