use Rattle.target_asm_spec.specs.Text.{write_line}
use Rattle.target_asm_spec.proofs.Numbered.{numbered_step}
use Rattle.target_asm.proofs.printing.put_writes.Goals as goal

pub loop-i-preserved : goal.loop-i-preserved
loop-i-preserved c = numbered_step write_line c.loop-i.i c.args.writes.now _ c.args.out.now.items
    c.loop-i.out.items _ c.loop-i-test.true c.loop-i.invariant c.in_ok-put_write.ensures.ok
