use Rattle.target_asm_spec.proofs.Numbered.{numbered_step}
use Rattle.block_draw.specs.Boxes.{write_box}
use Rattle.block_draw.proofs.boxes.put_writes.Goals as goal

pub loop-i-preserved : goal.loop-i-preserved
loop-i-preserved c = numbered_step write_box c.loop-i.i c.args.writes.now _ c.args.out.now.items
    c.loop-i.out.items _ c.loop-i-test.true c.loop-i.invariant c.in_ok-put_write.ensures.ok
