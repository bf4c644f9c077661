use Rattle.std.proofs.Common.{◌≡◌, ◌++◌}
use Rattle.std.specs.Prelude.{is_some}
use Rattle.commit_flush_spec.specs.Frames.{at}
use Rattle.grid_record.specs.Moments.{token_bytes}
use Rattle.grid_record.specs.Pieces.{pieces}
use Rattle.grid_record.proofs.tokens.put_places.Given as goal

abbrev pub invariant-loop-place : goal.invariant-loop-place
invariant-loop-place l = l.out.items
    ≡ l.fn.out.items ++ pieces (λ p. token_bytes (is_some (at l.held.places p)) p) l.place
