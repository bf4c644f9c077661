use Rattle.std.proofs.Common.{arith, ◌∙◌, refl, ◌≡◌, drop, ◌+◌, ◌-◌, false, nat_lt, length}
use Rattle.std.proofs.lemmas.Bool.{le-ltb}
use Rattle.block_image.specs.inside.Reading.{chunk_at, words}
use Rattle.block_image.proofs.Lists.{words_take}
use Rattle.block_image.proofs.body.chunk.Goals as goal

pub returns : goal.returns
unfolding chunk_at
returns c =
    let t : nat_lt (length c.args.bytes.now) (c.args.at + 128) ≡ false =
    le-ltb _ _ c.if-bytes-at.false in
    let e : c.words_of.result ≡ words 32 (drop c.args.at c.args.bytes.now) =
    c.words_of.ensures.value ∙ words_take 32 (c.args.at + 128 - c.args.at)
    (drop c.args.at c.args.bytes.now) (omega arith) in
    record { value = rw (t, e) refl }
