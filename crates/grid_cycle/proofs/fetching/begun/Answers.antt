use Rattle.std.proofs.Common.{sym, ◌∙◌}
use Rattle.grid_parts.specs.Seen.{seen}
use Rattle.grid_cycle.proofs.FetchFacts.{fetch_full, fetch_room}
use Rattle.grid_cycle.proofs.fetching.begun.Goals as goal

pub returns-then-may_begin : goal.returns-then-may_begin
returns-then-may_begin g c =
    let x = c.args.grid.now in
    c.after.ensures ∙ fetch_room (g.V.Windows.blocks x.window) (seen (g.V.Windows.held x.window) x.state)
    (sym c.if-may_begin.ensures)

pub returns-else-may_begin : goal.returns-else-may_begin
returns-else-may_begin g c =
    let x = c.args.grid.now in
    fetch_full (g.V.Windows.blocks x.window) (seen (g.V.Windows.held x.window) x.state) (sym c.if-may_begin.ensures)
