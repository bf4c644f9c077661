use Rattle.std.proofs.Common.{ap, ◌∙◌}
use Rattle.base.specs.Rows.{flags}
use Rattle.base.proofs.FlagFacts.{none_set}
use Rattle.base.proofs.flags.Flags.clear.Goals as goal

pub returns : goal.returns
returns g c = record {
  value = ap (flags g.row.N) c.zeros-self-inside.ensures ∙ none_set g.row.N g.row.W;
}
