use Rattle.std.proofs.Common.{◌≡◌, List, sym, ap, ap₂, subst, ◌∙◌, map}
use Rattle.ir_forms.specs.declared.flow.FlowNode.{FlowNode}
use Rattle.ir_forms.specs.declared.flow.FlowWrite.{FlowWrite}
use Rattle.ir_forms.specs.declared.flow.FlowBlock.{FlowBlock}
use Rattle.flow_fold.specs.inside.Draws.{drawn_write, with_writes, drawn}
use Rattle.flow_fold.specs.inside.Replaces.{Replaces}
use Rattle.flow_fold.proofs.DrawnWrites.{drawing_stands}
use Rattle.flow_fold.proofs.drawing.drawn.Goals as goal

pub returns : goal.returns
returns c =
    let marks = c.args.marks.now in
    let drawn_is : c.in_ok-writes.writes ≡ map (drawn_write c.args.block.nodes marks) c.args.block.writes =
    c.in_ok-writes.ensures
    ∙ ap₂ (λ (ns : List FlowNode) (ws : List FlowWrite). map (drawn_write ns marks) ws)
    c.as_slice-nodes.ensures.value c.as_slice-old.ensures.value in
    let same : c.with_writes.result ≡ drawn marks c.args.block =
    c.with_writes.ensures ∙ ap (with_writes c.args.block) drawn_is in
    subst (λ (g : FlowBlock). Replaces c.args.block g) (sym same) (drawing_stands marks c.args.block)
