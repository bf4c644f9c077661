use Rattle.std.proofs.Common.{ap, sym, ◌∙◌}
use Rattle.commit_flush.specs.inside.Places.{place_of, age_of}
use Rattle.commit_flush.specs.Seen.{Seen}
use Rattle.commit_flush.proofs.SeenFacts.{numbers_seen}
use Rattle.commit_flush.proofs.window.Window.age_of.Goals as goal

pub returns-clause-value : goal.returns-clause-value
returns-clause-value c =
    c.place_of.ensures.value
    ∙ ap (place_of c.args.frame) (c.as_slice.ensures.value ∙ sym (numbers_seen c.self.invariant.sound))
    ∙ ap (λ (w : Seen). age_of c.args.frame w.window.frames) c.self.view_is
