use Rattle.std.proofs.Common.{ℕ, ◌+◌, ◌*◌, ◌<◌, None, get_or, ap, ◌∙◌, arith}
use Rattle.trips_isa.specs.declared.block.Sense.TheVariants.{OnTrue}
use Rattle.trips_isa.specs.Rule.{matched}
use Rattle.frame_state.proofs.spots.Spots.odd.Goals as goal

pub returns : goal.returns
returns c = record {
  value = λ (s : ℕ) (h : s < 64).
      let low : 64 * c.args.k + s < 128 = omega arith in
      c.word.ensures.value s h low ∙ c.self.invariant.on_true (64 * c.args.k + s) low
      ∙ ap (λ z. matched OnTrue (get_or z (256 + (64 * c.args.k + s)) None)) c.self.view_is;
}
