use Rattle.std.proofs.Common.{length, ap, ◌∙◌}
use Rattle.base.specs.inside.Rows.{row}
use Rattle.std.proofs.lemmas.List.{length-replicate}
use Rattle.std.proofs.Common.{replicate}
use Rattle.base.proofs.FlagFacts.{length_unset}
use Rattle.base.proofs.RowFacts.{none_there}
use Rattle.base.proofs.row.Row.none.Goals as goal

pub invariant_of-result : goal.invariant_of-result
invariant_of-result g c = (ap length c.none.ensures ∙ length_unset g.row.N, length-replicate g.row.N c.args.item)

pub returns : goal.returns
returns g c = ap (λ z. row g.row.N z (replicate g.row.N c.args.item)) c.none.ensures
    ∙ none_there g.row.N (replicate g.row.N c.args.item)
