use Rattle.std.proofs.Common.{◌<◌, ◌^◌, ◌&&◌, ap, ◌∙◌, rules}
use Rattle.base.specs.Rows.{has_bit}
use Rattle.frame_state.proofs.BitFacts.{has_and, has_not}
use Rattle.frame_state.proofs.ready.waiting.Goals as goal

pub returns : goal.returns
returns c = record {
  value = λ s h.
      let small : c.args.fired < 2 ^ 64 = search rules in
      has_and c.args.there _ s ∙ ap (λ z. has_bit c.args.there s && z) (has_not c.args.fired s small h);
}
