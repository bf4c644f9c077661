use Rattle.std.proofs.Common.{ap, sym, ◌∙◌, slice_get}
use Rattle.commit_flush.specs.Places.{numbers_of}
use Rattle.commit_flush.specs.Seen.{Seen}
use Rattle.commit_flush.proofs.SeenFacts.{numbers_seen}
use Rattle.commit_flush.proofs.window.Window.frame_at.Goals as goal

pub returns : goal.returns
returns c = record {
  value = c.number_at.ensures
      ∙ ap (λ xs. slice_get xs c.args.age) (c.as_slice.ensures.value ∙ sym (numbers_seen c.self.invariant.sound))
      ∙ ap (λ (w : Seen). slice_get (numbers_of w.window.frames) c.args.age) c.self.view_is;
}
