use Rattle.std.proofs.Common.{arith}
use Rattle.commit_flush.proofs.LowestBitFacts.{no_bit, low_bit}
use Rattle.commit_flush.proofs.searching.lowest_bit.Goals as goal

pub returns-then-word-eq0 : goal.returns-then-word-eq0
returns-then-word-eq0 c = no_bit c.args.word c.if-word-eq0.true

pub returns-else-word-eq0 : goal.returns-else-word-eq0
returns-else-word-eq0 c = low_bit c.args.word (omega arith) c.if-word-eq0.false
