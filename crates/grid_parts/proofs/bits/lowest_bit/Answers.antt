use Rattle.std.proofs.Common.{arith}
use Rattle.operand_net.proofs.MarkBits.{no_bit_from, low_bit_from}
use Rattle.grid_parts.proofs.bits.lowest_bit.Goals as goal

pub returns-then-rest-eq0 : goal.returns-then-rest-eq0
returns-then-rest-eq0 c = no_bit_from c.args.word c.args.from c.requires c.if-rest-eq0.true

pub returns-else-rest-eq0 : goal.returns-else-rest-eq0
returns-else-rest-eq0 c = low_bit_from c.args.word c.args.from c.requires (omega arith) c.if-rest-eq0.false
