use Rattle.grid_parts.proofs.BitFacts.{or_bits, bit_put}
use Rattle.grid_parts.proofs.bits.with_bit.Goals as goal

pub returns-then-on-clause-other : goal.returns-then-on-clause-other
returns-then-on-clause-other c = λ i e. (or_bits c.args.word _ i e).0

pub returns-then-on-clause-set : goal.returns-then-on-clause-set
returns-then-on-clause-set c = λ e. absurd (bit_put c.args.word c.args.bit c.requires e)
