use Rattle.std.proofs.Common.{ap, sym, ◌∙◌}
use Rattle.commit_flush.specs.Places.{numbers_of}
use Rattle.commit_flush.specs.Seen.{Seen}
use Rattle.commit_flush.proofs.SeenFacts.{numbers_seen}
use Rattle.commit_flush.proofs.window.Window.numbers.Goals as goal

pub returns : goal.returns
returns c = record {
  value = c.as_slice.ensures.value ∙ sym (numbers_seen c.self.invariant.sound)
      ∙ ap (λ (w : Seen). numbers_of w.window.frames) c.self.view_is;
}
