-- Targets, read.
use Rattle.std.specs.Prelude.{Option, Some, None}
use Rattle.trips_isa.specs.declared.block.Spot.{Spot}
use Rattle.trips_isa.specs.declared.block.Spot.TheVariants as spot
use Rattle.target_asm_spec.specs.declared.spelled.SpelledTarget.{SpelledTarget}
use Rattle.target_asm_spec.specs.declared.spelled.SpelledTarget.TheVariants as spelled
use Rattle.target_asm_spec.specs.Reading.{◌>>=◌, field_in}

-- the target, where its number lies in its field
unfoldable pub spot_of : SpelledTarget → Option Spot
spot_of (spelled.Write n) = field_in n 32 >>= λ w. Some (spot.Write w)
spot_of (spelled.Left n) = field_in n 128 >>= λ s. Some (spot.Left s)
spot_of (spelled.Right n) = field_in n 128 >>= λ s. Some (spot.Right s)
spot_of (spelled.Pred n) = field_in n 128 >>= λ s. Some (spot.Pred s)

-- no target has no number to judge
unfoldable pub maybe_spot : Option SpelledTarget → Option (Option Spot)
maybe_spot None = Some None
maybe_spot (Some t) = spot_of t >>= λ s. Some (Some s)
