use Rattle.std.proofs.Common.{bit_or, ap, ap₂, ◌∙◌}
use Rattle.ir_forms.specs.inside.HyperCode.{If}
use Rattle.ir_forms.specs.inside.HyperViews.{items_of}
use Rattle.ir_forms.proofs.Views.{then_if}
use Rattle.hyper_trim.proofs.Walks.{pushed}
use Rattle.hyper_trim.proofs.walking.before_if.Goals as goal

pub returns : goal.returns
returns c = λ t p q h hp hq. record {
  live = ap₂ bit_or (ap₂ bit_or hp.live hq.live) c.read_by.ensures;
  filled = h.filled;
  items = pushed _ _ _ _ _ h.items c.in_ok-push.ensures.ok (then_if c.args.test _ _ t.items
      ∙ ap₂ (λ x y. If c.args.test x y t.items) (ap items_of c.turned.ensures ∙ hp.items)
      (ap items_of c.turned-2.ensures ∙ hq.items));
}
