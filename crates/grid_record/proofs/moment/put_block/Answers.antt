use Rattle.std.proofs.Common.{◌≡◌, ◌++◌, ◌∷◌, [], sym, ap}
use Rattle.std.proofs.lemmas.Result.{on_ok_weaker}
use Rattle.byteorder.specs.Endian.{big_bytes}
use Rattle.grid_record.specs.Moments.{block_bytes}
use Rattle.grid_record.proofs.PieceFacts.{then_too, whole_is}
use Rattle.grid_record.proofs.moment.put_block.Goals as goal

pub returns-in_ok-put_byte-in-None : goal.returns-in_ok-put_byte-in-None
returns-in_ok-put_byte-in-None c = record {
  ok = on_ok_weaker c.put_word.result (λ e. whole_is c.args.out.now.items
      (then_too c.args.out.now.items (0 ∷ []) (big_bytes 4 0) c.in_ok-put_byte-in-None.ensures.ok e)
      (ap block_bytes (sym c.in-None.is))) c.put_word.ensures.ok;
}

pub returns-in_ok-put_byte-in-Some : goal.returns-in_ok-put_byte-in-Some
returns-in_ok-put_byte-in-Some c = record {
  ok = on_ok_weaker c.put_word-in-Some.result (λ e. whole_is c.args.out.now.items (then_too c.args.out.now.items
      (1 ∷ []) (big_bytes 4 c.in-Some.number) c.in_ok-put_byte-in-Some.ensures.ok e)
      (ap block_bytes (sym c.in-Some.is))) c.put_word-in-Some.ensures.ok;
}
