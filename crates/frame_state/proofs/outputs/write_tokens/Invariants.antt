use Rattle.std.proofs.Common.{◌≡◌, ℕ, ◌<◌, ◌+◌, get_or, length}
use Rattle.trips_isa.specs.declared.block.Token.TheVariants.{Null}
use Rattle.trips_isa.specs.Outcomes.{or_null}
use Rattle.commit_flush_spec.specs.Frames.{at}
use Rattle.frame_state.proofs.outputs.write_tokens.Given as goal

abbrev pub invariant-loop-w : goal.invariant-loop-w
invariant-loop-w l = record {
  size : length l.tokens ≡ 32;
  came : (k : ℕ) → k < l.w → get_or l.tokens k Null ≡ or_null (at l.spots (384 + k));
}
