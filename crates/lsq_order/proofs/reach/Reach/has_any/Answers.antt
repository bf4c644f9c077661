use Rattle.std.proofs.Common.{arith}
use Rattle.lsq_order.proofs.ReachFacts.{any_is}
use Rattle.lsq_order.proofs.reach.Reach.has_any.Goals as goal

pub returns : goal.returns
returns c = any_is c.args.address c.args.size c.args.self.now.address c.args.self.now.bits c.bits_of.result
    (omega arith)
    c.bits_of.ensures
