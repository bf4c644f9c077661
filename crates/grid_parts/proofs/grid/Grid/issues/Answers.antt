use Rattle.std.proofs.Common.{sym, ap, ◌∙◌}
use Rattle.grid_cycle_spec.specs.Units.{issue_chosen}
use Rattle.grid_parts.specs.Seen.{seen}
use Rattle.grid_parts.proofs.UnitFacts.{issues_free, issues_busy}
use Rattle.grid_parts.proofs.grid.Grid.issues.Goals as goal

pub returns-in-Some-clause-change : goal.returns-in-Some-clause-change
returns-in-Some-clause-change g c =
    let w = c.args.self.now.window in
    let here = seen (g.V.Windows.held w) c.args.self.now.state in
    c.issue.ensures.change
    ∙ ap (λ o. issue_chosen (g.V.Windows.blocks w) (g.V.Windows.budget w) c.args.tile o here) c.in-Some.ensures.value
    ∙ issues_free (g.V.Windows.blocks w) (g.V.Windows.budget w) c.args.tile 0 0 here
    (sym c.busy.ensures ∙ c.if-busy-eq0.true)

pub returns-in-None-clause-change : goal.returns-in-None-clause-change
returns-in-None-clause-change g c =
    let w = c.args.self.now.window in
    let here = seen (g.V.Windows.held w) c.args.self.now.state in
    ap (λ o. issue_chosen (g.V.Windows.blocks w) (g.V.Windows.budget w) c.args.tile o here) c.in-None.ensures.value
    ∙ issues_free (g.V.Windows.blocks w) (g.V.Windows.budget w) c.args.tile 0 0 here
    (sym c.busy.ensures ∙ c.if-busy-eq0.true)

pub returns-else-busy-eq0-clause-change : goal.returns-else-busy-eq0-clause-change
returns-else-busy-eq0-clause-change g c =
    let w = c.args.self.now.window in
    let here = seen (g.V.Windows.held w) c.args.self.now.state in
    issues_busy (g.V.Windows.blocks w) (g.V.Windows.budget w) c.args.tile 0 0 here
    (λ e. c.if-busy-eq0.false (c.busy.ensures ∙ e))
