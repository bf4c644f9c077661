use Rattle.std.proofs.Common.{arith}
use Rattle.lsq_order.proofs.BitFacts.{low_bits_few, low_bits_all}
use Rattle.lsq_order.proofs.reach.low_bits.Goals as goal

pub returns-then-n-lt64 : goal.returns-then-n-lt64
returns-then-n-lt64 c = λ i l. low_bits_few c.args.n i (omega arith)

pub returns-else-n-lt64 : goal.returns-else-n-lt64
returns-else-n-lt64 c = λ i l. low_bits_all c.args.n i (omega arith) l
