use Rattle.std.proofs.Common.{Some, length, set, ap, sym, ◌∙◌, arith}
use Rattle.base.specs.inside.Rows.{row}
use Rattle.base.proofs.RowFacts.{put_item, put_past, length_row}
use Rattle.base.proofs.row.Row.put.Goals as goal

pub returns-then-q-clause-value : goal.returns-then-q-clause-value
returns-then-q-clause-value g c =
    ap (λ z. row g.row.N z (set c.self.inside.items c.args.q c.args.item)) c.put.ensures.value
    ∙ put_item g.row.N c.self.inside.there c.self.inside.items c.args.q c.args.item (omega arith)
    c.self.invariant.0 c.self.invariant.1
    ∙ ap (λ z. set z c.args.q (Some c.args.item)) c.self.view_is

pub returns-then-q-clause-size : goal.returns-then-q-clause-size
returns-then-q-clause-size g c = ap length (sym c.self.view_is)
    ∙ length_row g.row.N c.self.inside.there c.self.inside.items

pub returns-else-q-clause-value : goal.returns-else-q-clause-value
returns-else-q-clause-value g c =
    ap (λ z. row g.row.N z c.self.inside.items) c.put.ensures.value
    ∙ put_past g.row.N c.self.inside.there c.self.inside.items c.args.q c.args.item (omega arith)
    c.self.invariant.0
    ∙ ap (λ z. set z c.args.q (Some c.args.item)) c.self.view_is

pub returns-else-q-clause-size : goal.returns-else-q-clause-size
returns-else-q-clause-size g c = ap length (sym c.self.view_is)
    ∙ length_row g.row.N c.self.inside.there c.self.inside.items
