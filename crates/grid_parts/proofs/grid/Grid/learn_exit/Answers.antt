use Rattle.std.proofs.Common.{sym, ap, ap₂, ◌∙◌}
use Rattle.grid_cycle_spec.specs.Ends.{learning}
use Rattle.grid_parts.specs.inside.Changes.{learned_of}
use Rattle.grid_parts.specs.Seen.{seen}
use Rattle.grid_parts.proofs.FetchFacts.{HasNumber, exit_is, no_exit}
use Rattle.grid_parts.proofs.grid.Grid.learn_exit.Goals as goal

pub returns-in-Some-clause-change : goal.returns-in-Some-clause-change
returns-in-Some-clause-change g c = λ f en eb ex.
    let w = g.V.Windows.held c.args.self.now.window in
    let here = seen w c.args.self.now.state in
    let x : HasNumber f.exit c.in-Some.exit = exit_is f.exit c.in-Some.exit (sym c.in-Some.is ∙ ex) in
    c.learn.ensures w
    ∙ ap₂ (λ b n. learned_of b n c.in-Some.exit here) (sym eb) (sym en)
    ∙ ap (λ k. learned_of f.block f.number k here) (sym x.number)
    ∙ ap (λ o. learning f o here) (sym x.is)

pub returns-in-None-clause-change : goal.returns-in-None-clause-change
returns-in-None-clause-change g c = λ f en eb ex.
    ap (λ o. learning f o (seen (g.V.Windows.held c.args.self.now.window) c.args.self.now.state))
    (sym (no_exit f.exit (sym c.in-None.is ∙ ex)))
