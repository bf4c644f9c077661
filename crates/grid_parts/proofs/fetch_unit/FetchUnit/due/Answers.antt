use Rattle.std.proofs.Common.{ap, ◌∙◌}
use Rattle.grid_parts.specs.inside.Fetches.{due}
use Rattle.grid_parts.proofs.FetchUnitFacts.{due_now, due_later, never_due}
use Rattle.grid_parts.proofs.fetch_unit.FetchUnit.due.Goals as goal

pub returns-then-self-eq0 : goal.returns-then-self-eq0
returns-then-self-eq0 c =
    due_now c.self.inside.busy c.self.inside.left c.self.inside.block c.self.inside.history c.self.inside.careful
    c.if-self.true c.if-self-eq0.true ∙ ap due c.self.view_is

pub returns-else-self-eq0 : goal.returns-else-self-eq0
returns-else-self-eq0 c =
    due_later c.self.inside.busy c.self.inside.left c.self.inside.block c.self.inside.history c.self.inside.careful
    c.if-self-eq0.false ∙ ap due c.self.view_is

pub returns-else-self : goal.returns-else-self
returns-else-self c =
    never_due c.self.inside.busy c.self.inside.left c.self.inside.block c.self.inside.history c.self.inside.careful
    c.if-self.false ∙ ap due c.self.view_is
