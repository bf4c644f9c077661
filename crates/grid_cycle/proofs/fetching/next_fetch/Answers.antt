use Rattle.std.proofs.Common.{refl, sym, ◌∙◌}
use Rattle.grid_parts.specs.Seen.{seen}
use Rattle.grid_parts.proofs.FetchFacts.{IsDue, is_due}
use Rattle.grid_cycle.proofs.DueFacts.{is_idle, next_busy, next_idle}
use Rattle.grid_cycle.proofs.fetching.next_fetch.Goals as goal

pub returns-in-Some : goal.returns-in-Some
returns-in-Some g c =
    let q : IsDue c.args.grid.now.state.fetching c.in-Some.block =
    is_due c.args.grid.now.state.fetching c.in-Some.block (sym c.in-Some.ensures) in
    c.behind_due.ensures q.fetch q.is q.block q.left

pub returns-then-is_idle : goal.returns-then-is_idle
returns-then-is_idle g c =
    let x = c.args.grid.now in
    c.begun.ensures
    ∙ next_idle (g.V.Windows.blocks x.window) (g.V.Windows.budget x.window) (seen (g.V.Windows.held x.window) x.state)
    (is_idle x.state.fetching (sym c.if-is_idle.ensures))

pub returns-else-is_idle : goal.returns-else-is_idle
returns-else-is_idle g c =
    let x = c.args.grid.now in
    next_busy (g.V.Windows.blocks x.window) (g.V.Windows.budget x.window) (seen (g.V.Windows.held x.window) x.state)
    x.state.fetching refl (sym c.in-None.ensures) (sym c.if-is_idle.ensures)
