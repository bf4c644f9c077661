use Rattle.std.proofs.Common.{arith}
use Rattle.lsq_order.proofs.BitFacts.{led_down_is, led_out}
use Rattle.lsq_order.proofs.sought.led_down.Goals as goal

pub returns-then-bytes-lt8 : goal.returns-then-bytes-lt8
returns-then-bytes-lt8 c = led_down_is c.args.word c.args.bytes

pub returns-else-bytes-lt8 : goal.returns-else-bytes-lt8
returns-else-bytes-lt8 c = λ i. led_out c.args.word c.args.bytes i (omega arith) (omega arith)
