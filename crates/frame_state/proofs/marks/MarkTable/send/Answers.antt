use Rattle.std.proofs.Common.{subst, arith}
use Rattle.frame_state.specs.inside.MarkRows.{HasNoMark}
use Rattle.frame_state.proofs.BareFacts.{sent_bare}
use Rattle.frame_state.proofs.marks.MarkTable.send.Goals as goal

pub returns-else-mark-gt0 : goal.returns-else-mark-gt0
returns-else-mark-gt0 c = record {
  value = let none = c.if-mark-gt0.false in sent_bare c.args.self.now c.args.p c.args.mark
      (subst HasNoMark c.self.view_is (c.self.invariant c.if-self.false)) (omega (arith, none));
}
