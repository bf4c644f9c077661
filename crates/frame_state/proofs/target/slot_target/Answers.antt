use Rattle.std.proofs.Common.{◌∙◌, arith}
use Rattle.frame_state.proofs.TargetFacts.{item_named, past_named}
use Rattle.frame_state.proofs.target.slot_target.Goals as goal

pub returns-then-slot-insts : goal.returns-then-slot-insts
returns-then-slot-insts c = c.inst_target.ensures c.args.slot
    ∙ item_named c.args.block.now c.as_slice-insts.result.now c.args.slot _ c.args.first
    c.as_slice-insts.ensures.value (omega arith)

pub returns-else-slot-insts : goal.returns-else-slot-insts
returns-else-slot-insts c = past_named c.args.block.now c.as_slice-insts.result.now c.args.slot c.args.first
    c.as_slice-insts.ensures.value (omega arith)
