use Rattle.std.proofs.Common.{ap, ◌∙◌}
use Rattle.grid_parts.specs.Seen.{seen}
use Rattle.grid_log.specs.inside.Telling.{guesses}
use Rattle.grid_log.proofs.Fetching.{begins_logged}
use Rattle.grid_log.proofs.fetches.begins.Goals as goal

pub returns-clause-told : goal.returns-clause-told
returns-clause-told g c =
    let v = c.args.grid.now.window in
    let h = c.fetch_begins.new.self in
    begins_logged (g.V.Windows.blocks v) (seen (g.V.Windows.held v) c.args.grid.now.state)
    (seen (g.V.Windows.held h.window) h.state) c.is_idle-idle.result c.guesses-behind.result c.fetch_of.result
    c.args.log.now c.tell_begun_if.new.log c.fetch_begins.ensures.change c.is_idle-idle.ensures
    (c.guesses-behind.ensures ∙ ap (guesses c.args.grid.now.state.standing) c.open_youngest.ensures)
    c.fetch_of.ensures c.tell_begun_if.ensures
