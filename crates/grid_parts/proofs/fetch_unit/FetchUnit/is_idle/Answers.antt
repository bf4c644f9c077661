use Rattle.std.proofs.Common.{is_none, ap, ◌∙◌}
use Rattle.grid_parts.proofs.FetchUnitFacts.{idle_is}
use Rattle.grid_parts.proofs.fetch_unit.FetchUnit.is_idle.Goals as goal

pub returns : goal.returns
returns c = idle_is c.self.inside.busy c.self.inside.left c.self.inside.block c.self.inside.history
    c.self.inside.careful
    ∙ ap is_none c.self.view_is
