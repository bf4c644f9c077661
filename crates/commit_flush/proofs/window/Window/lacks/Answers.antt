use Rattle.std.proofs.Common.{sym, ap, ◌∙◌}
use Rattle.commit_flush.specs.inside.Places.{frame_of}
use Rattle.commit_flush.specs.Observed.{is_whole_in, lack_in}
use Rattle.commit_flush.proofs.ObserveFacts.{idle_lack, idle_whole}
use Rattle.commit_flush.proofs.window.Window.lacks.Goals as goal

pub returns-in-None : goal.returns-in-None
returns-in-None c = record {
  value = sym (idle_lack (frame_of c.args.frame c.args.self.now.window.frames) c.in-None.ensures.value);
  whole = sym (idle_whole (frame_of c.args.frame c.args.self.now.window.frames) c.in-None.ensures.value);
}

pub returns-in-Some : goal.returns-in-Some
returns-in-Some c = record {
  value = c.lacks.ensures.value ∙ sym (ap lack_in c.in-Some.ensures.value);
  whole = c.lacks.ensures.whole ∙ sym (ap is_whole_in c.in-Some.ensures.value);
}
