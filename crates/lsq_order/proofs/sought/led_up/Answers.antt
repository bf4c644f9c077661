use Rattle.lsq_order.proofs.BitFacts.{led_up_is}
use Rattle.lsq_order.proofs.sought.led_up.Goals as goal

pub returns : goal.returns
returns c = led_up_is c.args.word c.args.bytes
