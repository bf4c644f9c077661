use Rattle.std.proofs.Common.{ap, sym, ◌∙◌}
use Rattle.commit_flush.specs.inside.Places.{free_number}
use Rattle.commit_flush.specs.Seen.{Seen}
use Rattle.commit_flush.proofs.SeenFacts.{numbers_seen}
use Rattle.commit_flush.proofs.window.Window.lowest_empty.Goals as goal

pub returns-clause-value : goal.returns-clause-value
returns-clause-value c =
    c.free_number.ensures.value _ (numbers_seen c.self.invariant.sound ∙ sym c.as_slice.ensures.value)
    ∙ ap (λ (w : Seen). free_number w.window.frames) c.self.view_is
