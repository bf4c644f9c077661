use Rattle.std.proofs.Common.{ap, ◌∙◌, subst}
use Rattle.grid_parts.specs.Seen.{seen}
use Rattle.grid_tallies.specs.Counters.{Hears}
use Rattle.grid_tallies.specs.inside.Fetching.{guesses}
use Rattle.grid_tallies.proofs.Fetched.{begins_are}
use Rattle.grid_tallies.proofs.fetches.begins.Goals as goal

pub returns-clause-heard : goal.returns-clause-heard
returns-clause-heard g c =
    let v = c.args.grid.now.window in
    let h = c.fetch_begins.new.self in
    subst (λ es. Hears c.args.told.now es c.hear_begun_if.new.told)
    (begins_are (g.V.Windows.blocks v) (seen (g.V.Windows.held v) c.args.grid.now.state)
    (seen (g.V.Windows.held h.window) h.state) c.is_idle-idle.result c.guesses-behind.result c.fetch_of.result
    c.fetch_begins.ensures.change c.is_idle-idle.ensures
    (c.guesses-behind.ensures.value ∙ ap (guesses c.args.grid.now.state.standing) c.open_youngest.ensures.value)
    c.fetch_of.ensures) c.hear_begun_if.ensures
