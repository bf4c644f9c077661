use Rattle.std.proofs.Common.{[], refl, sym, ap, ◌∙◌, subst}
use Rattle.grid_cycle_spec.specs.DataTiles.{answer_chosen}
use Rattle.grid_events.specs.StationNotes.{answer_notes}
use Rattle.grid_parts.specs.Seen.{seen}
use Rattle.grid_log.specs.Logs.{Logged}
use Rattle.grid_log.proofs.Logging.{logged_none}
use Rattle.grid_log.proofs.data_tiles.data_turn.Goals as goal

pub returns-in-Some-clause-change : goal.returns-in-Some-clause-change
returns-in-Some-clause-change g c =
    let w = c.args.grid.now.window in
    c.answered.ensures.change
    ∙ ap (λ o. answer_chosen (g.V.Windows.blocks w) (g.V.Windows.budget w) c.args.tile o
    (seen (g.V.Windows.held w) c.args.grid.now.state)) c.in-Some.ensures.value

pub returns-in-Some-clause-told : goal.returns-in-Some-clause-told
returns-in-Some-clause-told g c =
    let w = c.args.grid.now.window in
    subst (λ o. Logged c.args.log.now (answer_notes (g.V.Windows.blocks w) (g.V.Windows.budget w) c.args.tile o
    (seen (g.V.Windows.held w) c.args.grid.now.state)) c.answered.new.log) c.in-Some.ensures.value
    c.answered.ensures.told

pub returns-in-None-clause-change : goal.returns-in-None-clause-change
returns-in-None-clause-change g c =
    let w = c.args.grid.now.window in
    ap (λ o. answer_chosen (g.V.Windows.blocks w) (g.V.Windows.budget w) c.args.tile o
    (seen (g.V.Windows.held w) c.args.grid.now.state)) c.in-None.ensures.value

pub returns-in-None-clause-told : goal.returns-in-None-clause-told
returns-in-None-clause-told g c =
    let w = c.args.grid.now.window in
    subst (λ o. Logged c.args.log.now (answer_notes (g.V.Windows.blocks w) (g.V.Windows.budget w) c.args.tile o
    (seen (g.V.Windows.held w) c.args.grid.now.state)) c.args.log.now) c.in-None.ensures.value
    (logged_none c.args.log.now [] (λ s. refl))
