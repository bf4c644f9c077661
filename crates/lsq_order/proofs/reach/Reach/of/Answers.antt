use Rattle.lsq_order.proofs.ReachFacts.{of_is}
use Rattle.lsq_order.proofs.reach.Reach.of.Goals as goal

pub returns : goal.returns
returns c = record {
  reached = of_is c.args.stored c.start-address.result c.stored_bits-bits.result c.stored_bits-bits.ensures
      c.requires.size
      c.start-address.ensures;
}
