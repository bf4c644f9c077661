use Rattle.std.proofs.Common.{subst, arith}
use Rattle.frame_state.specs.inside.MarkRows.{HasNoMark}
use Rattle.frame_state.proofs.BareFacts.{stored_bare}
use Rattle.frame_state.proofs.marks.MarkTable.resolve.Goals as goal

pub returns-else-mark-gt0 : goal.returns-else-mark-gt0
returns-else-mark-gt0 c = record {
  value = let none = c.if-mark-gt0.false in stored_bare c.args.self.now c.args.number c.args.mark
      (subst HasNoMark c.self.view_is (c.self.invariant c.if-self.false)) (omega (arith, none));
}
