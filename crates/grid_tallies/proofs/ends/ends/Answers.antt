use Rattle.std.proofs.Common.{◌∙◌}
use Rattle.grid_parts.specs.Seen.{seen}
use Rattle.grid_tallies.proofs.Flushing.{ends_heard}
use Rattle.grid_tallies.proofs.ends.ends.Goals as goal

pub returns-clause-heard : goal.returns-clause-heard
returns-clause-heard g c =
    let v = c.args.grid.now.window in
    let h = c.ends.new.self in
    ends_heard (g.V.Windows.blocks v) (g.V.Windows.budget v) (seen (g.V.Windows.held v) c.args.grid.now.state)
    (seen (g.V.Windows.held h.window) h.state) c.saturating_sub-flushed.result c.args.told.now c.add.new.self
    c.ends.ensures.change c.saturating_sub-flushed.ensures c.add.ensures
