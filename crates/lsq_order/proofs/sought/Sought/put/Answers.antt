use Rattle.std.proofs.Common.{arith}
use Rattle.lsq_order.specs.inside.Taking.{byte_bit}
use Rattle.lsq_order.proofs.MaskFacts.{small_and}
use Rattle.lsq_order.proofs.TakingFacts.{put_off, put_bit}
use Rattle.lsq_order.proofs.sought.Sought.put.Goals as goal

pub returns-clause-sound : goal.returns-clause-sound
returns-clause-sound c = record {
  small = c.requires.small;
  behind = c.requires.behind;
  wanted = λ i l. put_off c.args.self.wanted c.args.bits i (c.requires.wanted i l);
}

pub returns-clause-taken : goal.returns-clause-taken
returns-clause-taken c = λ mem i l. put_bit c.args.self.wanted c.args.bits c.args.self.word c.args.word
    (byte_bit c.args.self.end mem i) i c.merged.result (small_and c.args.bits c.args.self.wanted (omega arith)) l
    (c.merged.ensures i l)
