use Rattle.std.proofs.Common.{◌≡◌, ℕ, ◌+◌, List, length, take, sym, ap, ◌∙◌, arith}
use Rattle.trips_isa.specs.Outcomes.{or_null}
use Rattle.commit_flush_spec.specs.Frames.{at}
use Rattle.frame_state.proofs.OutputFacts.{written}
use Rattle.frame_state.proofs.outputs.write_tokens.Goals as goal

pub returns : goal.returns
returns c = record {
  value = λ (rs : List ℕ) (e : length rs ≡ c.args.count).
      ap (λ n. take n c.loop-w.tokens) (sym e)
      ∙ written (at c.args.spots.now) rs c.loop-w.tokens 0 (omega (arith, c.loop-w.invariant.size))
      (λ k h. let z : k ≡ 0 + k = omega arith in
      c.loop-w.invariant.came k (omega arith) ∙ ap (λ j. or_null (at c.args.spots.now (384 + j))) z);
}
