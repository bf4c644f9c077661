use Rattle.std.proofs.Common.{◌≡◌, false, bit_or, refl, sym, ap₂, ◌∙◌}
use Rattle.ir_forms.proofs.Views.{then_set}
use Rattle.hyper_trim.specs.inside.Sets.{without}
use Rattle.hyper_trim.specs.inside.Trim as spec
use Rattle.hyper_trim.proofs.Walks.{pushed, kept_holds}
use Rattle.hyper_trim.proofs.walking.before_set.Goals as goal

pub returns : goal.returns
returns c = λ t h.
    let e : spec.is_dropped c.args.leg c.args.op c.args.to t ≡ false =
    sym (ap₂ (λ l f. spec.drops c.args.leg c.args.op c.args.to l f) h.live h.filled)
    ∙ sym c.drops.ensures ∙ c.if-drops.false in
    kept_holds (spec.is_dropped c.args.leg c.args.op c.args.to t) t
    (spec.set_kept c.args.to c.args.op c.args.a c.args.b t) _ e
    (record {
      live = ap₂ bit_or (ap₂ bit_or (c.without.ensures ∙ ap₂ without h.live c.bit.ensures) c.read_by.ensures)
          c.read_by-2.ensures;
      filled = refl;
      items = pushed _ _ _ _ _ h.items c.in_ok-push.ensures.ok
          (then_set c.args.to c.args.op c.args.a c.args.b t.items);
    })
