use Rattle.block_cases.specs.Orders.{bad_number}
use Rattle.block_check.proofs.UsedSlots.{widen, past_number}
use Rattle.block_check.proofs.numbers.find_bad_number.Goals as goal

pub returns : goal.returns
returns c = widen (bad_number c.args.block.now) c.args.used c.requires.within (past_number
    c.args.block.now c.args.used c.requires.empty) c.find_number_used.result
    c.find_number_used.ensures
