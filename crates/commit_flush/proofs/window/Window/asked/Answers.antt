use Rattle.std.proofs.Common.{sym, ap, ◌∙◌}
use Rattle.commit_flush.specs.inside.Places.{frame_of}
use Rattle.commit_flush.specs.inside.Observed.{waits_in}
use Rattle.commit_flush.proofs.BitFacts.{no_bit}
use Rattle.commit_flush.proofs.ObserveFacts.{idle_waits}
use Rattle.commit_flush.proofs.window.Window.asked.Goals as goal

pub returns-in-None : goal.returns-in-None
returns-in-None c = record {
  value = λ k l. no_bit k
      ∙ sym (idle_waits k (frame_of c.args.frame c.args.self.now.window.frames) c.in-None.ensures.value);
}

pub returns-in-Some : goal.returns-in-Some
returns-in-Some c = record {
  value = λ k l. c.asked_in.ensures k l ∙ sym (ap (waits_in k) c.in-Some.ensures.value);
}
