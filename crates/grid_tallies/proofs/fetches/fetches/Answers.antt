use Rattle.std.proofs.Common.{ap, ◌∙◌, subst}
use Rattle.grid_cycle_spec.specs.Fetches.{begins}
use Rattle.grid_events.specs.FetchNotes.{begin_notes}
use Rattle.grid_parts.specs.Seen.{seen}
use Rattle.grid_tallies.specs.Counters.{Hears}
use Rattle.grid_tallies.proofs.Fetched.{fetches_hear, nothing_fetched}
use Rattle.grid_tallies.proofs.Tallying.{heard_none}
use Rattle.grid_tallies.proofs.fetches.fetches.Goals as goal

pub returns-clause-change : goal.returns-clause-change
returns-clause-change g c =
    let m = c.goes_on.new.grid in
    c.begins.ensures.change
    ∙ ap (λ bs. begins bs (seen (g.V.Windows.held m.window) m.state)) c.goes_on.ensures.image
    ∙ ap (begins (g.V.Windows.blocks c.args.grid.now.window)) c.goes_on.ensures.change

pub returns-clause-heard : goal.returns-clause-heard
returns-clause-heard g c =
    let v = c.args.grid.now.window in
    let bs = g.V.Windows.blocks v in
    let b = g.V.Windows.budget v in
    let here = seen (g.V.Windows.held v) c.args.grid.now.state in
    let m = c.goes_on.new.grid in
    let mid = seen (g.V.Windows.held m.window) m.state in
    let told = record c.args.told.now { guesses = c.goes_on.new.told } in
    fetches_hear bs b here mid c.args.told.now told c.begins.new.told c.goes_on.ensures.change
    (record {
      tallies = heard_none c.args.told.now.tallies _ (nothing_fetched bs b here.fetching here);
      guesses = c.goes_on.ensures.heard;
    })
    (subst (λ l. Hears told (begin_notes l m.state.fetching mid) c.begins.new.told) c.goes_on.ensures.image
    c.begins.ensures.heard)
