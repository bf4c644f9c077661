use Rattle.std.proofs.Common.{arith}
use Rattle.target_asm.proofs.Data.{data_next, data_fail, data_end}
use Rattle.target_asm.proofs.whole.bytes.Goals as goal

pub returns-in-None : goal.returns-in-None
returns-in-None c =
    data_fail c.args.count c.loop-at.at _ _ _ _ c.loop-at-test.true c.in-None.ensures
    c.byte_line.ensures.value
    c.loop-at.invariant

pub loop-at-preserved : goal.loop-at-preserved
loop-at-preserved c =
    data_next c.args.count c.loop-at.at _ _ _ _ _ _ c.loop-at-test.true c.in-Some.ensures
    c.in_default.ensures.items
    c.loop-at.invariant

pub returns : goal.returns
returns c = data_end c.args.count c.loop-at.at _ _ _
    (omega (arith, c.loop-at-test.false)) c.loop-at.invariant
