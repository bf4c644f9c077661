use Rattle.std.proofs.Common.{◌∙◌}
use Rattle.grid_parts.proofs.FetchUnitFacts.{careful_is}
use Rattle.grid_parts.proofs.fetch_unit.FetchUnit.is_careful.Goals as goal

pub returns : goal.returns
returns c = λ f e. careful_is c.self.inside.busy c.self.inside.left c.self.inside.block
    c.self.inside.history c.self.inside.careful f (c.self.view_is ∙ e)
