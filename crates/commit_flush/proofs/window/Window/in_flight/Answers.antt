use Rattle.std.proofs.Common.{ap, sym, ◌∙◌, length}
use Rattle.commit_flush.specs.Seen.{Seen}
use Rattle.commit_flush.proofs.SeenFacts.{count_seen}
use Rattle.commit_flush.proofs.window.Window.in_flight.Goals as goal

pub returns : goal.returns
returns c = record {
  value = ap length c.as_slice-order.ensures.value ∙ sym (count_seen c.self.invariant.sound)
      ∙ ap (λ (w : Seen). length w.window.frames) c.self.view_is;
}
