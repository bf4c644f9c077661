use Rattle.std.proofs.Common.{◌∙◌, arith}
use Rattle.lsq_order.proofs.ReachFacts.{bits_from}
use Rattle.lsq_order.proofs.reach.bits_of.Goals as goal

pub returns-then-address-base : goal.returns-then-address-base
returns-then-address-base c = λ i l. c.low_bits.ensures i l
    ∙ bits_from c.args.address c.args.size c.args.base i c.saturating_sub.result (omega arith) (omega arith)
