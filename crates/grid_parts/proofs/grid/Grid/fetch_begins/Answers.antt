use Rattle.std.proofs.Common.{sym, ◌∙◌}
use Rattle.grid_parts.specs.Seen.{seen}
use Rattle.grid_parts.proofs.FetchFacts.{begins_idle, begins_full, begins_busy}
use Rattle.grid_parts.proofs.grid.Grid.fetch_begins.Goals as goal

pub returns-then-may_begin-clause-change : goal.returns-then-may_begin-clause-change
returns-then-may_begin-clause-change g c =
    let v = c.args.self.now.window in
    let here = seen (g.V.Windows.held v) c.args.self.now.state in
    c.begins_after.ensures.change
    ∙ begins_idle (g.V.Windows.blocks v) here (sym c.if-is_idle.ensures)
    (sym c.if-may_begin.ensures)

pub returns-else-may_begin-clause-change : goal.returns-else-may_begin-clause-change
returns-else-may_begin-clause-change g c =
    let v = c.args.self.now.window in
    let here = seen (g.V.Windows.held v) c.args.self.now.state in
    begins_full (g.V.Windows.blocks v) here (sym c.if-is_idle.ensures)
    (sym c.if-may_begin.ensures)

pub returns-else-is_idle-clause-change : goal.returns-else-is_idle-clause-change
returns-else-is_idle-clause-change g c =
    let v = c.args.self.now.window in
    let here = seen (g.V.Windows.held v) c.args.self.now.state in
    begins_busy (g.V.Windows.blocks v) here (sym c.if-is_idle.ensures)
