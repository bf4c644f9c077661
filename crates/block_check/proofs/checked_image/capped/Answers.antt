use Rattle.std.proofs.Common.{arith, refl, sym, ◌∙◌}
use Rattle.block_check.proofs.Chunks.{none_past}
use Rattle.block_check.proofs.checked_image.capped.Goals as goal
use Rattle.trips_isa.specs.Limits.{most_chunks}

pub returns-else-chunk-lt524288 : goal.returns-else-chunk-lt524288
returns-else-chunk-lt524288 c = λ blocks total.
    sym (none_past blocks most_chunks total (omega arith)) ∙ none_past blocks c.args.chunk total (omega arith)
