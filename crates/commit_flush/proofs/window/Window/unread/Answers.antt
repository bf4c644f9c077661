use Rattle.std.proofs.Common.{sym, ap, ◌∙◌}
use Rattle.commit_flush.specs.inside.Places.{frame_of}
use Rattle.commit_flush.specs.inside.Observed.{unread_in}
use Rattle.commit_flush.proofs.BitFacts.{no_bit}
use Rattle.commit_flush.proofs.ObserveFacts.{idle_unread}
use Rattle.commit_flush.proofs.window.Window.unread.Goals as goal

pub returns-in-None : goal.returns-in-None
returns-in-None c = record {
  value = λ r l. no_bit r
      ∙ sym (idle_unread r (frame_of c.args.frame c.args.self.now.window.frames) c.in-None.ensures.value);
}

pub returns-in-Some : goal.returns-in-Some
returns-in-Some c = record {
  value = λ r l. c.unread_in.ensures r l ∙ sym (ap (unread_in r) c.in-Some.ensures.value);
}
