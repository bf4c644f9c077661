use Rattle.grid_parts.specs.Seen.{seen}
use Rattle.grid_parts.proofs.MarkedFacts.{not_issued}
use Rattle.grid_tallies.proofs.Turning.{unmarked_heard}
use Rattle.grid_tallies.proofs.units.issues_marked.Goals as goal

pub returns-else-is_marked-clause-change : goal.returns-else-is_marked-clause-change
returns-else-is_marked-clause-change g c =
    let w = c.args.grid.now.window in
    not_issued (g.V.Windows.blocks w) (g.V.Windows.budget w) c.args.tile
    (seen (g.V.Windows.held w) c.args.grid.now.state) c.args.marks c.requires.marked c.if-is_marked.ensures

pub returns-else-is_marked-clause-heard : goal.returns-else-is_marked-clause-heard
returns-else-is_marked-clause-heard g c =
    let w = c.args.grid.now.window in
    unmarked_heard (g.V.Windows.blocks w) (g.V.Windows.budget w) c.args.tile
    (seen (g.V.Windows.held w) c.args.grid.now.state) c.args.told.now c.args.told.now c.args.marks
    c.requires.marked c.if-is_marked.ensures
