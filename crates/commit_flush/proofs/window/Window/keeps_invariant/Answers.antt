use Rattle.std.proofs.Common.{subst}
use Rattle.commit_flush_spec.specs.inside.Invariant.{AllGood}
use Rattle.commit_flush_spec.specs.inside.Laws.{WindowOk}
use Rattle.commit_flush.specs.Seen.{Seen}
use Rattle.commit_flush.proofs.SeenFacts.{good}
use Rattle.commit_flush.proofs.window.Window.keeps_invariant.Goals as goal

pub returns : goal.returns
returns c = record {
  blocks = subst (λ (z : Seen). AllGood z.image.blocks) c.self.view_is (good c.self.invariant.sound);
  window = subst (λ (z : Seen). WindowOk z.image.blocks z.budget z.window) c.self.view_is
      c.self.invariant.sound.window;
}
