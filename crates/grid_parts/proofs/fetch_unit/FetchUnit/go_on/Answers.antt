use Rattle.std.proofs.Common.{sym, ap, ◌∙◌, arith}
use Rattle.grid_parts.specs.inside.Fetches.{nearer}
use Rattle.grid_parts.proofs.FetchUnitFacts.{one_less, none_less}
use Rattle.grid_parts.proofs.fetch_unit.FetchUnit.go_on.Goals as goal

pub returns-then-self-gt0 : goal.returns-then-self-gt0
returns-then-self-gt0 c =
    one_less c.self.inside.busy c.self.inside.left c.self.inside.block c.self.inside.history c.self.inside.careful
    (omega arith) ∙ ap nearer c.self.view_is

pub returns-else-self-gt0 : goal.returns-else-self-gt0
returns-else-self-gt0 c =
    sym c.self.view_is
    ∙ none_less c.self.inside.busy c.self.inside.left c.self.inside.block c.self.inside.history c.self.inside.careful
    (omega arith) ∙ ap nearer c.self.view_is
