use Rattle.std.proofs.Common.{length, ap, sym, ◌∙◌}
use Rattle.base.specs.inside.Rows.{row}
use Rattle.base.proofs.FlagFacts.{length_unset}
use Rattle.base.proofs.RowFacts.{none_there, none_mapped, length_row}
use Rattle.base.proofs.row.Row.clear.Goals as goal

pub invariant_of-self : goal.invariant_of-self
invariant_of-self g c = (ap length c.clear.ensures.value ∙ length_unset g.row.N, c.self.invariant.1)

pub returns-clause-value : goal.returns-clause-value
returns-clause-value g c = ap (λ z. row g.row.N z c.self.inside.items) c.clear.ensures.value
    ∙ none_there g.row.N c.self.inside.items

pub returns-clause-same : goal.returns-clause-same
returns-clause-same g c = ap (λ z. row g.row.N z c.self.inside.items) c.clear.ensures.value
    ∙ none_there g.row.N c.self.inside.items
    ∙ none_mapped g.row.N c.args.self.now
    (ap length (sym c.self.view_is) ∙ length_row g.row.N c.self.inside.there c.self.inside.items)
