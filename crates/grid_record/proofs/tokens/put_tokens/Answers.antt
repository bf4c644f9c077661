use Rattle.std.proofs.Common.{◌≡◌, ◌∷◌, []}
use Rattle.std.specs.Prelude.{is_some}
use Rattle.std.proofs.lemmas.Result.{on_ok_weaker}
use Rattle.commit_flush_spec.specs.Frames.{at}
use Rattle.grid_record.specs.Moments.{token_bytes}
use Rattle.grid_record.specs.Pieces.{pieces}
use Rattle.grid_record.proofs.PieceFacts.{then_too}
use Rattle.grid_record.proofs.tokens.put_tokens.Goals as goal

pub returns : goal.returns
returns c = record {
  ok = on_ok_weaker c.put_all.result (λ e. then_too c.args.out.now.items
      (pieces (λ p. token_bytes (is_some (at c.args.held.now.places p)) p) 320) (255 ∷ 255 ∷ [])
      c.in_ok-put_places.ensures.ok e) c.put_all.ensures.ok;
}
