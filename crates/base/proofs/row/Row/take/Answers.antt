use Rattle.std.proofs.Common.{None, length, set, ap, sym, ◌∙◌}
use Rattle.base.specs.inside.Rows.{row}
use Rattle.base.proofs.RowFacts.{take_item, length_row}
use Rattle.base.proofs.row.Row.take.Goals as goal

pub returns-clause-value : goal.returns-clause-value
returns-clause-value g c =
    ap (λ z. row g.row.N z c.self.inside.items) c.take.ensures.value
    ∙ take_item g.row.N c.self.inside.there c.self.inside.items c.args.q c.self.invariant.0
    ∙ ap (λ z. set z c.args.q None) c.self.view_is

pub returns-clause-size : goal.returns-clause-size
returns-clause-size g c = ap length (sym c.self.view_is)
    ∙ length_row g.row.N c.self.inside.there c.self.inside.items
