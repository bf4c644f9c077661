use Rattle.std.proofs.Common.{◌≡◌, length}
use Rattle.c_names.specs.Words.{words_from}
use Rattle.c_names.proofs.words.take_words.Given as goal

abbrev pub invariant-loop-rest : goal.invariant-loop-rest
invariant-loop-rest l =
    words_from l.fn.scope l.fn.all l.fn.tokens ≡ words_from l.scope l.all l.rest

abbrev pub decreases-loop-rest : goal.decreases-loop-rest
decreases-loop-rest l = length l.rest
