use Rattle.std.proofs.Common.{sym, ap, ◌∙◌}
use Rattle.commit_flush_spec.specs.Older.{committed, successor_of}
use Rattle.grid_parts.specs.inside.Asked.{found_in, number_of}
use Rattle.grid_parts.proofs.FetchFacts.{HasNumber, exit_is, known_youngest, no_exit}
use Rattle.grid_cycle.specs.inside.Follows.{behind, guess}
use Rattle.grid_cycle.proofs.fetching.behind.Goals as goal

pub returns-in-Some : goal.returns-in-Some
returns-in-Some g c = λ f e eb y.
    let x = c.args.grid.now in
    let w = g.V.Windows.held x.window in
    let z : HasNumber f.exit c.in-Some.field-0 =
    exit_is f.exit c.in-Some.field-0 (c.in-Some.ensures ∙ ap (found_in (λ h. number_of h.exit)) e) in
    c.successor.ensures ∙ known_youngest f w.frames (committed w.state) y ∙ ap successor_of z.is
    ∙ ap (behind (g.V.Windows.blocks x.window) x.state.predictor x.state.standing f) (sym z.is)

pub returns-in-None : goal.returns-in-None
returns-in-None g c = λ f e eb y.
    let x = c.args.grid.now in
    c.guess.ensures
    ∙ ap (λ k. guess (g.V.Windows.blocks x.window) x.state.predictor k x.state.standing) (sym eb)
    ∙ ap (behind (g.V.Windows.blocks x.window) x.state.predictor x.state.standing f)
    (sym (no_exit f.exit (c.in-None.ensures ∙ ap (found_in (λ h. number_of h.exit)) e)))
