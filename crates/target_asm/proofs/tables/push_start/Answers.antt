use Rattle.std.proofs.Common.{arith}
use Rattle.target_asm_spec.proofs.Starts.{zero_more, row_whole}
use Rattle.target_asm.proofs.tables.push_start.Goals as goal

pub loop-preserved : goal.loop-preserved
loop-preserved c = zero_more c.loop.starts.items c.push.new.self.items _ c.loop.counter
    (omega (arith, c.loop.auto)) c.loop.invariant c.in_ok-push-2.ensures.items

pub returns : goal.returns
returns c = record {
  ok = row_whole c.loop.starts.items c.args.starts.now.items
      c.push.new.self.items c.loop.counter c.args.number c.args.chunks
      (omega (arith, c.loop.auto, c.loop-test.false)) c.in_ok-push.ensures.items c.loop.invariant;
}
