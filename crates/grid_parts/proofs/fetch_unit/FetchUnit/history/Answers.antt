use Rattle.std.proofs.Common.{◌∙◌}
use Rattle.grid_parts.proofs.FetchUnitFacts.{history_is}
use Rattle.grid_parts.proofs.fetch_unit.FetchUnit.history.Goals as goal

pub returns-clause-value : goal.returns-clause-value
returns-clause-value c = λ f e. history_is c.self.inside.busy c.self.inside.left c.self.inside.block
    c.self.inside.history c.self.inside.careful f (c.self.view_is ∙ e)
