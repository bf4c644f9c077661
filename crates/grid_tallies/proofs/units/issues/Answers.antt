use Rattle.std.proofs.Common.{◌≡◌, [], refl, sym, ap, ◌∙◌, subst}
use Rattle.grid_cycle_spec.specs.Units.{issue_chosen}
use Rattle.grid_events.specs.UnitNotes.{issue_notes}
use Rattle.grid_parts.specs.Seen.{seen}
use Rattle.grid_parts.proofs.UnitFacts.{issues_free, issues_busy}
use Rattle.grid_tallies.specs.Statistics.{Heard}
use Rattle.grid_tallies.proofs.Tallying.{heard_none}
use Rattle.grid_tallies.proofs.Turning.{busy_heard, free_heard}
use Rattle.grid_tallies.proofs.units.issues.Goals as goal

pub returns-in-Some-clause-change : goal.returns-in-Some-clause-change
returns-in-Some-clause-change g c =
    let w = c.args.grid.now.window in
    let here = seen (g.V.Windows.held w) c.args.grid.now.state in
    c.issued.ensures.change
    ∙ ap (λ o. issue_chosen (g.V.Windows.blocks w) (g.V.Windows.budget w) c.args.tile o here) c.in-Some.ensures.value
    ∙ issues_free (g.V.Windows.blocks w) (g.V.Windows.budget w) c.args.tile 0 0 here
    (sym c.busy.ensures ∙ c.if-busy-eq0.true)

pub returns-in-Some-clause-heard : goal.returns-in-Some-clause-heard
returns-in-Some-clause-heard g c =
    let w = c.args.grid.now.window in
    let here = seen (g.V.Windows.held w) c.args.grid.now.state in
    free_heard (g.V.Windows.blocks w) (g.V.Windows.budget w) c.args.tile here c.args.told.now c.issued.new.told
    (sym c.busy.ensures ∙ c.if-busy-eq0.true)
    (subst (λ o. Heard c.args.told.now (issue_notes c.args.tile o here) c.issued.new.told) c.in-Some.ensures.value
    c.issued.ensures.heard)

pub returns-in-None-clause-change : goal.returns-in-None-clause-change
returns-in-None-clause-change g c =
    let w = c.args.grid.now.window in
    let here = seen (g.V.Windows.held w) c.args.grid.now.state in
    ap (λ o. issue_chosen (g.V.Windows.blocks w) (g.V.Windows.budget w) c.args.tile o here) c.in-None.ensures.value
    ∙ issues_free (g.V.Windows.blocks w) (g.V.Windows.budget w) c.args.tile 0 0 here
    (sym c.busy.ensures ∙ c.if-busy-eq0.true)

pub returns-in-None-clause-heard : goal.returns-in-None-clause-heard
returns-in-None-clause-heard g c =
    let w = c.args.grid.now.window in
    let here = seen (g.V.Windows.held w) c.args.grid.now.state in
    free_heard (g.V.Windows.blocks w) (g.V.Windows.budget w) c.args.tile here c.args.told.now c.args.told.now
    (sym c.busy.ensures ∙ c.if-busy-eq0.true)
    (subst (λ o. Heard c.args.told.now (issue_notes c.args.tile o here) c.args.told.now) c.in-None.ensures.value
    (heard_none c.args.told.now [] (λ s. refl)))

pub returns-else-busy-eq0-clause-change : goal.returns-else-busy-eq0-clause-change
returns-else-busy-eq0-clause-change g c =
    let w = c.args.grid.now.window in
    let here = seen (g.V.Windows.held w) c.args.grid.now.state in
    issues_busy (g.V.Windows.blocks w) (g.V.Windows.budget w) c.args.tile 0 0 here
    (λ e. c.if-busy-eq0.false (c.busy.ensures ∙ e))

pub returns-else-busy-eq0-clause-heard : goal.returns-else-busy-eq0-clause-heard
returns-else-busy-eq0-clause-heard g c =
    let w = c.args.grid.now.window in
    let here = seen (g.V.Windows.held w) c.args.grid.now.state in
    busy_heard (g.V.Windows.blocks w) (g.V.Windows.budget w) c.args.tile here c.args.told.now c.args.told.now
    (λ e. c.if-busy-eq0.false (c.busy.ensures ∙ e))
