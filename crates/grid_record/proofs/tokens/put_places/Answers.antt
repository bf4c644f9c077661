use Rattle.std.proofs.Common.{◌≡◌, ℕ, List}
use Rattle.std.specs.Prelude.{is_some}
use Rattle.commit_flush_spec.specs.Frames.{at}
use Rattle.grid_record.specs.Moments.{token_bytes}
use Rattle.grid_record.proofs.PieceFacts.{next_piece, none_yet}
use Rattle.grid_record.proofs.tokens.put_places.Goals as goal

pub loop-place-init : goal.loop-place-init
loop-place-init c =
    none_yet (λ p. token_bytes (is_some (at c.args.held.now.places p)) p) c.args.out.now.items

pub loop-place-preserved : goal.loop-place-preserved
loop-place-preserved c = next_piece c.args.out.now.items (λ p. token_bytes (is_some (at c.args.held.now.places p)) p)
    c.loop-place.place c.loop-place.invariant c.in_ok-put_token.ensures.ok
