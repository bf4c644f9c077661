use Rattle.std.proofs.Common.{ap, ◌∙◌, subst}
use Rattle.grid_cycle_spec.specs.Fetches.{begins}
use Rattle.grid_events.specs.FetchNotes.{begin_notes}
use Rattle.grid_parts.specs.Seen.{seen}
use Rattle.grid_log.specs.Logs.{Logged}
use Rattle.grid_log.proofs.Fetching.{fetches_logged}
use Rattle.grid_log.proofs.fetches.fetches.Goals as goal

pub returns-clause-change : goal.returns-clause-change
returns-clause-change g c =
    let m = c.goes_on.new.grid in
    c.begins.ensures.change
    ∙ ap (λ bs. begins bs (seen (g.V.Windows.held m.window) m.state)) c.goes_on.ensures.image
    ∙ ap (begins (g.V.Windows.blocks c.args.grid.now.window)) c.goes_on.ensures.change

pub returns-clause-told : goal.returns-clause-told
returns-clause-told g c =
    let v = c.args.grid.now.window in
    let m = c.goes_on.new.grid in
    let mid = seen (g.V.Windows.held m.window) m.state in
    fetches_logged (g.V.Windows.blocks v) (g.V.Windows.budget v) (seen (g.V.Windows.held v) c.args.grid.now.state) mid
    c.args.log.now c.goes_on.new.log c.begins.new.log c.goes_on.ensures.change c.goes_on.ensures.told
    (subst (λ bs. Logged c.goes_on.new.log (begin_notes bs m.state.fetching mid) c.begins.new.log)
    c.goes_on.ensures.image c.begins.ensures.told)
