use Rattle.std.proofs.Common.{arith}
use Rattle.grid_parts.proofs.MarkFacts.{slots_more, slots_marked}
use Rattle.grid_parts.proofs.slots_ready.marked_slots.Goals as goal

pub loop-i-init : goal.loop-i-init
loop-i-init g c = λ s j l m e. absurd (omega arith)

pub loop-i-preserved : goal.loop-i-preserved
loop-i-preserved g c =
    let w = c.args.window.now in
    slots_more (g.V.Windows.blocks w) (g.V.Windows.budget w) (g.V.Windows.held w) c.args.order.now c.loop-i.marks
    c.ready-word.result c.loop-i.i c.ready-word.ensures c.loop-i.invariant

pub returns : goal.returns
returns g c =
    let w = c.args.window.now in
    slots_marked (g.V.Windows.blocks w) (g.V.Windows.budget w) (g.V.Windows.held w) c.args.order.now c.loop-i.marks
    c.loop-i.i c.requires.order (omega arith) c.loop-i.invariant
