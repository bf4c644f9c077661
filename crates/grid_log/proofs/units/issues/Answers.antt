use Rattle.std.proofs.Common.{◌≡◌, [], refl, sym, ap, ◌∙◌, subst}
use Rattle.grid_cycle_spec.specs.Units.{issue_chosen}
use Rattle.grid_events.specs.UnitNotes.{issue_notes}
use Rattle.grid_parts.specs.Seen.{seen}
use Rattle.grid_parts.proofs.UnitFacts.{issues_free, issues_busy}
use Rattle.grid_log.specs.Logs.{Logged}
use Rattle.grid_log.proofs.Logging.{logged_none}
use Rattle.grid_log.proofs.Turning.{busy_logged, free_logged}
use Rattle.grid_log.proofs.units.issues.Goals as goal

pub returns-in-Some-clause-change : goal.returns-in-Some-clause-change
returns-in-Some-clause-change g c =
    let w = c.args.grid.now.window in
    let here = seen (g.V.Windows.held w) c.args.grid.now.state in
    c.issued.ensures.change
    ∙ ap (λ o. issue_chosen (g.V.Windows.blocks w) (g.V.Windows.budget w) c.args.tile o here) c.in-Some.ensures.value
    ∙ issues_free (g.V.Windows.blocks w) (g.V.Windows.budget w) c.args.tile 0 0 here
    (sym c.busy.ensures ∙ c.if-busy-eq0.true)

pub returns-in-Some-clause-told : goal.returns-in-Some-clause-told
returns-in-Some-clause-told g c =
    let w = c.args.grid.now.window in
    let here = seen (g.V.Windows.held w) c.args.grid.now.state in
    free_logged (g.V.Windows.blocks w) (g.V.Windows.budget w) c.args.tile here c.args.log.now c.issued.new.log
    (sym c.busy.ensures ∙ c.if-busy-eq0.true)
    (subst (λ o. Logged c.args.log.now (issue_notes c.args.tile o here) c.issued.new.log) c.in-Some.ensures.value
    c.issued.ensures.told)

pub returns-in-None-clause-change : goal.returns-in-None-clause-change
returns-in-None-clause-change g c =
    let w = c.args.grid.now.window in
    let here = seen (g.V.Windows.held w) c.args.grid.now.state in
    ap (λ o. issue_chosen (g.V.Windows.blocks w) (g.V.Windows.budget w) c.args.tile o here) c.in-None.ensures.value
    ∙ issues_free (g.V.Windows.blocks w) (g.V.Windows.budget w) c.args.tile 0 0 here
    (sym c.busy.ensures ∙ c.if-busy-eq0.true)

pub returns-in-None-clause-told : goal.returns-in-None-clause-told
returns-in-None-clause-told g c =
    let w = c.args.grid.now.window in
    let here = seen (g.V.Windows.held w) c.args.grid.now.state in
    free_logged (g.V.Windows.blocks w) (g.V.Windows.budget w) c.args.tile here c.args.log.now c.args.log.now
    (sym c.busy.ensures ∙ c.if-busy-eq0.true)
    (subst (λ o. Logged c.args.log.now (issue_notes c.args.tile o here) c.args.log.now) c.in-None.ensures.value
    (logged_none c.args.log.now [] (λ s. refl)))

pub returns-else-busy-eq0-clause-change : goal.returns-else-busy-eq0-clause-change
returns-else-busy-eq0-clause-change g c =
    let w = c.args.grid.now.window in
    let here = seen (g.V.Windows.held w) c.args.grid.now.state in
    issues_busy (g.V.Windows.blocks w) (g.V.Windows.budget w) c.args.tile 0 0 here
    (λ e. c.if-busy-eq0.false (c.busy.ensures ∙ e))

pub returns-else-busy-eq0-clause-told : goal.returns-else-busy-eq0-clause-told
returns-else-busy-eq0-clause-told g c =
    let w = c.args.grid.now.window in
    let here = seen (g.V.Windows.held w) c.args.grid.now.state in
    busy_logged (g.V.Windows.blocks w) (g.V.Windows.budget w) c.args.tile here c.args.log.now c.args.log.now
    (λ e. c.if-busy-eq0.false (c.busy.ensures ∙ e))
