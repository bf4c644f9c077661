use Rattle.std.proofs.Common.{subst}
use Rattle.frame_state.specs.inside.MarkRows.{HasNoMark}
use Rattle.frame_state.proofs.BareFacts.{delivered_bare}
use Rattle.frame_state.proofs.marks.MarkTable.deliver.Goals as goal

pub returns-else-self : goal.returns-else-self
returns-else-self c = record {
  value = delivered_bare c.args.self.now c.args.p c.args.q
      (subst HasNoMark c.self.view_is (c.self.invariant c.if-self.false));
}
