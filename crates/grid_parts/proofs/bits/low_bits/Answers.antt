use Rattle.grid_parts.proofs.BitFacts.{low_32, low_at}
use Rattle.grid_parts.proofs.bits.low_bits.Goals as goal

pub returns : goal.returns
unfolding low_32
returns c = λ i l. low_at c.args.word i l
