use Rattle.std.proofs.Common.{refl, subst}
use Rattle.commit_flush_spec.specs.Window.{lowest_empty}
use Rattle.grid_parts.specs.Seen.{seen}
use Rattle.grid_tallies.specs.Predictions.{Guessed}
use Rattle.grid_tallies.proofs.Fetched.{fetch_ends_are}
use Rattle.grid_tallies.proofs.fetches.goes_on.Goals as goal

pub returns-clause-heard : goal.returns-clause-heard
returns-clause-heard g c =
    let v = c.args.grid.now.window in
    subst (λ es. Guessed c.args.told.now es c.hear_due.new.told)
    (fetch_ends_are (g.V.Windows.blocks v) (g.V.Windows.budget v) (seen (g.V.Windows.held v) c.args.grid.now.state)
    c.due-due.result c.may_fill-may.result (lowest_empty 8 0 (g.V.Windows.held v).frames) c.due-due.ensures
    c.may_fill-may.ensures refl) c.hear_due.ensures
