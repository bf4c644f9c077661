use Rattle.std.proofs.Common.{arith, ap, ◌∙◌, ◌≡◌, ◌++◌, ◌+◌, ◌-◌, ◌*◌, ℕ, List, take, drop, map}
use Rattle.block_image.specs.Words.{slot_word}
use Rattle.block_image.specs.Spelling.{words_bytes}
use Rattle.block_image.proofs.Writing.{slots_step}
use Rattle.block_image.proofs.put.put_slots.Goals as goal

pub loop-k-preserved : goal.loop-k-preserved
loop-k-preserved c =
    let n : 32 * c.loop-k.k + 32 - 32 * c.loop-k.k ≡ 32 = omega arith in
    slots_step c.loop-k.k c.loop-k.out.items c.put_chunk.new.out.items c.args.out.now.items
    c.args.insts.now c.loop-k.invariant
    (c.in_ok-put_chunk.ensures
    ∙ ap (λ (x : List ℕ). c.loop-k.out.items ++ words_bytes x) c.chunk_words-words.ensures.value
    ∙ ap (λ (x : ℕ). c.loop-k.out.items ++ words_bytes
    (map slot_word (take x (drop (32 * c.loop-k.k) c.args.insts.now)))) n)
