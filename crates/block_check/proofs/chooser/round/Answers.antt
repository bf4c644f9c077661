use Rattle.std.proofs.Common.{arith}
use Rattle.block_check.proofs.Chains.{led_spare}
use Rattle.block_check.proofs.chooser.round.Goals as goal

pub returns-clause-gives : goal.returns-clause-gives
returns-clause-gives c = led_spare c.args.nodes.now c.args.used c.mark_copies.new.left
    c.args.lead.now c.lead_on.new.lead c.requires.in_place c.requires.spare (omega arith)
    c.mark_copies.ensures c.lead_on.ensures.gives c.lead_on.ensures.rest
