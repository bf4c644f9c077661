use Rattle.std.proofs.Common.{◌≡◌, ◌++◌, map, take}
use Rattle.c_meaning.specs.inside.Cells.{worded}
use Rattle.c_meaning.proofs.arrays.put_words.Given as goal

abbrev pub invariant-loop-word : goal.invariant-loop-word
invariant-loop-word l = l.cells.items ≡ l.initial.cells.items ++ map (worded l.stamp)
    (take l.word-index l.words)
