use Rattle.std.proofs.Common.{◌≡◌, suc, ◌+◌, sym, subst, arith, take}
use Rattle.frame_state.specs.inside.Shapes.{IsShape}
use Rattle.grid_machine.specs.inside.Shaped.{AreShapes}
use Rattle.grid_machine.proofs.ShapeFacts.{all_shapes, more_shapes}
use Rattle.grid_machine.proofs.shapes.all.Goals as goal

pub loop-number-preserved : goal.loop-number-preserved
loop-number-preserved c =
    let next : suc c.loop-number.number ≡ c.loop-number.number + 1 = omega arith in
    let shape = subst (λ b. IsShape b c.make-shape.result) c.block.ensures.value c.make-shape.ensures.value in
    let bs = c.args.image.now.blocks in
    subst (λ k. AreShapes (take k bs) c.push.new.self.items) next
    (subst (AreShapes (take (suc c.loop-number.number) bs)) (sym c.in_ok-push.ensures.items)
    (more_shapes bs c.loop-number.number c.loop-number.shapes.items _ c.make-shape.result c.loop-number.invariant
    c.at.ensures.value shape))

pub returns : goal.returns
returns c =
    all_shapes c.args.image.now.blocks c.loop-number.number c.loop-number.shapes.items c.loop-number.invariant
    (omega arith)
