use Rattle.std.proofs.Common.{sym, ◌∙◌}
use Rattle.c_lex.proofs.Marks.{mark_ends}
use Rattle.c_lex.proofs.piece.most_bytes.Goals as goal

pub returns-then-not-goes_on-clause-same : goal.returns-then-not-goes_on-clause-same
returns-then-not-goes_on-clause-same c =
    mark_ends c.args.text.now c.if-text-ge2.true (sym c.goes_on.ensures ∙ c.if-not-goes_on.true)
