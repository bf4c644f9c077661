use Rattle.std.proofs.Common.{subst, sym, ◌∙◌, map, take}
use Rattle.c_meaning.specs.inside.Cells.{CellsKnown, worded}
use Rattle.c_meaning.proofs.Stamps.{cells-append, cells-worded}
use Rattle.c_meaning.proofs.arrays.put_words.Goals as goal

pub returns-clause-known : goal.returns-clause-known
returns-clause-known c = λ last le h.
    subst (CellsKnown last) (sym c.loop-word.invariant)
    (cells-append last c.args.cells.now.items
    (map (worded c.args.stamp) (take c.loop-word.word-index c.args.words.now)) h
    (cells-worded last c.args.stamp (take c.loop-word.word-index c.args.words.now) le))

pub returns-in_err-push-clause-known : goal.returns-in_err-push-clause-known
returns-in_err-push-clause-known c = λ last le h.
    subst (CellsKnown last) (sym (c.in_err-push.ensures.items ∙ c.loop-word.invariant))
    (cells-append last c.args.cells.now.items
    (map (worded c.args.stamp) (take c.loop-word.word-index c.args.words.now)) h
    (cells-worded last c.args.stamp (take c.loop-word.word-index c.args.words.now) le))
