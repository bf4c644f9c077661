use Rattle.std.proofs.Common.{bit_or, refl, ap₂, ◌∙◌}
use Rattle.ir_forms.proofs.Views.{then_load}
use Rattle.hyper_trim.specs.inside.Sets.{without}
use Rattle.hyper_trim.proofs.Walks.{pushed}
use Rattle.hyper_trim.proofs.walking.before_load.Goals as goal

pub returns : goal.returns
returns c = λ t h. record {
  live = ap₂ bit_or (c.without.ensures ∙ ap₂ without h.live c.bit.ensures) c.read_by.ensures;
  filled = refl;
  items = pushed _ _ _ _ _ h.items c.in_ok-push.ensures.ok (then_load c.args.to c.args.op c.args.address t.items);
}
