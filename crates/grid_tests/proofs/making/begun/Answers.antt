use Rattle.std.proofs.Common.{ap, ◌∙◌}
use Rattle.commit_flush.specs.Seen.{Seen}
use Rattle.grid_tests.proofs.StartFacts.{start_counted, start_cycles}
use Rattle.grid_tests.proofs.making.begun.Goals as goal

pub returns-clause-counted : goal.returns-clause-counted
returns-clause-counted g c =
    start_counted _ c.in_ok-window.window.window c.in_ok-state.state c.args.predictor
    c.args.weather (c.in_ok-state.ensures _)
    (ap (λ (z : Seen). z.window) c.in_ok-window.ensures.same ∙ c.in_ok-opened.ensures.opens)

pub returns-clause-cycles : goal.returns-clause-cycles
returns-clause-cycles g c =
    start_cycles c.in_ok-opened.opened.window.state c.in_ok-window.window.window c.in_ok-state.state c.args.predictor
    c.args.weather (c.in_ok-state.ensures c.in_ok-opened.opened.window.state)
