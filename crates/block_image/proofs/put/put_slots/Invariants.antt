use Rattle.std.proofs.Common.{◌≡◌, ◌++◌, ◌*◌, take, map}
use Rattle.block_image.specs.Words.{slot_word}
use Rattle.block_image.specs.Spelling.{words_bytes}
use Rattle.block_image.proofs.put.put_slots.Given as goal

abbrev pub invariant-loop-k : goal.invariant-loop-k
invariant-loop-k l = l.out.items ≡ l.initial.out.items ++ words_bytes
    (map slot_word (take (32 * l.k) l.insts))
