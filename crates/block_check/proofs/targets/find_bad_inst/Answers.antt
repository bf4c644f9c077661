use Rattle.block_cases.specs.Orders.{bad_inst}
use Rattle.block_check.proofs.UsedSlots.{widen, past_inst}
use Rattle.block_check.proofs.targets.find_bad_inst.Goals as goal

pub returns : goal.returns
returns c = widen (bad_inst c.args.block.now) c.args.used c.requires.within (past_inst
    c.args.block.now c.args.used c.requires.empty) c.find_bad_used.result c.find_bad_used.ensures
