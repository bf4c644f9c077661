use Rattle.lsq_order.proofs.BitFacts.{led_up_bits}
use Rattle.lsq_order.proofs.reach.led_up.Goals as goal

pub returns : goal.returns
returns c = led_up_bits c.args.word c.args.bits
