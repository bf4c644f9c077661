use Rattle.std.proofs.Common.{arith}
use Rattle.lsq_order.proofs.ReachFacts.{narrow_is}
use Rattle.lsq_order.proofs.reach.Reach.narrow.Goals as goal

pub returns : goal.returns
returns c = narrow_is c.args.self.now.address c.args.self.now.bits c.stored_bits-taken.result c.args.stored
    (omega arith)
    c.stored_bits-taken.ensures
