use Rattle.std.proofs.Common.{sym, ◌∙◌, true, false}
use Rattle.c_lex.proofs.Guesses.{lent_row, lent_past, same_is}
use Rattle.c_lex.proofs.guess.row_at.Goals as goal

pub returns-then-table-at : goal.returns-then-table-at
returns-then-table-at g c = sym (lent_past c.args.at c.args.bytes.now c.args.table.now
    c.if-table-at.true)

pub returns-then-same_bytes : goal.returns-then-same_bytes
returns-then-same_bytes g c =
    sym (lent_row c.args.at c.args.bytes.now c.args.table.now c.index-table-at.result true
    c.if-table-at.false c.index-table-at.is
    (sym c.if-same_bytes.true ∙ same_is _ _ _ c.same_bytes.ensures))

pub returns-else-same_bytes : goal.returns-else-same_bytes
returns-else-same_bytes g c =
    sym (lent_row c.args.at c.args.bytes.now c.args.table.now c.index-table-at.result false
    c.if-table-at.false c.index-table-at.is
    (sym c.if-same_bytes.false ∙ same_is _ _ _ c.same_bytes.ensures))
