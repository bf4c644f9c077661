use Rattle.std.proofs.Common.{◌∙◌, arith}
use Rattle.frame_state.proofs.TargetFacts.{read_named, node_named}
use Rattle.frame_state.proofs.target.node_target.Goals as goal

pub returns-then-node-reads : goal.returns-then-node-reads
returns-then-node-reads c = c.read_target.ensures
    ∙ read_named c.args.block.now c.as_slice-reads.result.now c.args.node _ c.args.first
    c.as_slice-reads.ensures.value
    (omega arith)

pub returns-else-node-reads : goal.returns-else-node-reads
returns-else-node-reads c = c.slot_target.ensures
    ∙ node_named c.args.block.now c.as_slice-reads.result.now c.args.node c.args.first
    c.as_slice-reads.ensures.value (omega arith)
