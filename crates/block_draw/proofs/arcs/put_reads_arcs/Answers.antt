use Rattle.target_asm_spec.proofs.Numbered.{numbered_step}
use Rattle.block_draw.specs.Arcs.{read_arcs}
use Rattle.block_draw.proofs.arcs.put_reads_arcs.Goals as goal

pub loop-number-preserved : goal.loop-number-preserved
loop-number-preserved c = numbered_step read_arcs c.loop-number.number c.args.reads.now _ c.args.out.now.items
    c.loop-number.out.items _ c.loop-number-test.true c.loop-number.invariant c.in_ok-put_read_arcs.ensures.ok
