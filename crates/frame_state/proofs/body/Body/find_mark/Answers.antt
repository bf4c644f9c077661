use Rattle.std.proofs.Common.{◌+◌, ap, ◌∙◌}
use Rattle.commit_flush_spec.specs.Marks.{mark_on}
use Rattle.commit_flush_spec.specs.Frames.{at}
use Rattle.frame_state.specs.inside.Held.{Held}
use Rattle.frame_state.proofs.NodeFacts.{marked_by}
use Rattle.frame_state.proofs.body.Body.find_mark.Goals as goal

pub returns : goal.returns
returns c = record {
  value = c.mark.ensures.value
      ∙ marked_by c.args.self.now c.args.inst.now c.args.slot c.get-left.result c.get-right.result
      c.get-predicate.result
      c.spot-left_mark.result c.spot-right_mark.result c.spot-predicate_mark.result
      (c.get-left.ensures.value ∙ ap (λ (h : Held). at h.spots c.args.slot) c.self.view_is)
      (c.get-right.ensures.value ∙ ap (λ (h : Held). at h.spots (128 + c.args.slot)) c.self.view_is)
      (c.get-predicate.ensures.value ∙ ap (λ (h : Held). at h.spots (256 + c.args.slot)) c.self.view_is)
      (c.spot-left_mark.ensures.value ∙ ap (λ (h : Held). mark_on h.marks.spots c.args.slot) c.self.view_is)
      (c.spot-right_mark.ensures.value ∙ ap (λ (h : Held). mark_on h.marks.spots (128 + c.args.slot)) c.self.view_is)
      (c.spot-predicate_mark.ensures.value
      ∙ ap (λ (h : Held). mark_on h.marks.spots (256 + c.args.slot)) c.self.view_is);
}
