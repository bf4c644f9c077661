use Rattle.std.proofs.Common.{[], refl, ap, ◌∙◌, subst}
use Rattle.grid_cycle_spec.specs.Banks.{read_chosen}
use Rattle.grid_events.specs.StationNotes.{read_notes}
use Rattle.grid_parts.specs.Seen.{seen}
use Rattle.grid_tallies.specs.Statistics.{Heard}
use Rattle.grid_tallies.proofs.Tallying.{heard_none}
use Rattle.grid_tallies.proofs.banks.bank_turn.Goals as goal

pub returns-in-Some-clause-change : goal.returns-in-Some-clause-change
returns-in-Some-clause-change g c =
    let w = c.args.grid.now.window in
    c.answered.ensures.change
    ∙ ap (λ o. read_chosen (g.V.Windows.blocks w) (g.V.Windows.budget w) c.args.bank o
    (seen (g.V.Windows.held w) c.args.grid.now.state)) c.in-Some.ensures.value

pub returns-in-Some-clause-heard : goal.returns-in-Some-clause-heard
returns-in-Some-clause-heard g c =
    let w = c.args.grid.now.window in
    subst (λ o. Heard c.args.told.now (read_notes (g.V.Windows.blocks w) (g.V.Windows.budget w) c.args.bank o
    (seen (g.V.Windows.held w) c.args.grid.now.state)) c.answered.new.told) c.in-Some.ensures.value
    c.answered.ensures.heard

pub returns-in-None-clause-change : goal.returns-in-None-clause-change
returns-in-None-clause-change g c =
    let w = c.args.grid.now.window in
    ap (λ o. read_chosen (g.V.Windows.blocks w) (g.V.Windows.budget w) c.args.bank o
    (seen (g.V.Windows.held w) c.args.grid.now.state)) c.in-None.ensures.value

pub returns-in-None-clause-heard : goal.returns-in-None-clause-heard
returns-in-None-clause-heard g c =
    let w = c.args.grid.now.window in
    subst (λ o. Heard c.args.told.now (read_notes (g.V.Windows.blocks w) (g.V.Windows.budget w) c.args.bank o
    (seen (g.V.Windows.held w) c.args.grid.now.state)) c.args.told.now) c.in-None.ensures.value
    (heard_none c.args.told.now [] (λ s. refl))
