use Rattle.block_image.specs.Headers.{words_from}
use Rattle.block_image.proofs.Writing.{HeaderWritten}
use Rattle.block_image.proofs.put.header_words.Given as goal

abbrev pub invariant-loop-i : goal.invariant-loop-i
invariant-loop-i l = HeaderWritten l.i l.info l.words l.reads l.writes
    (words_from 32 l.initial.info l.reads l.writes)
