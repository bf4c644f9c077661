use Rattle.std.proofs.Common.{◌≡◌, length, take, map}
use Rattle.block_image.specs.Words.{slot_word}
use Rattle.block_image.proofs.put.chunk_words.Given as goal

abbrev pub invariant-loop-i : goal.invariant-loop-i
invariant-loop-i l = (length l.words ≡ 32) × (take l.i l.words ≡ map slot_word (take l.i l.insts))
