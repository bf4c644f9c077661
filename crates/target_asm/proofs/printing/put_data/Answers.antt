use Rattle.std.proofs.Common.{length}
use Rattle.target_asm_spec.specs.Text.{byte_text}
use Rattle.target_asm_spec.proofs.Numbered.{numbered_step}
use Rattle.target_asm.proofs.printing.put_data.Goals as goal

pub loop-at-preserved : goal.loop-at-preserved
loop-at-preserved c = numbered_step (byte_text (length c.args.bytes.now)) c.loop-at.at
    c.args.bytes.now _ c.args.out.now.items c.loop-at.out.items _ c.loop-at-test.true
    c.loop-at.invariant c.in_ok-put_data_byte.ensures.ok
