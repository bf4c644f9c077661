use Rattle.std.proofs.Common.{sym, ap, ap₂, ◌∙◌}
use Rattle.block_predict.specs.Predicts.{predicted}
use Rattle.grid_cycle_spec.specs.Fetches.{begun_guess, begun_predicted}
use Rattle.grid_parts.specs.Seen.{seen}
use Rattle.grid_parts.proofs.grid.Grid.begins_guess.Goals as goal

pub returns-in-Some-clause-change : goal.returns-in-Some-clause-change
returns-in-Some-clause-change g c = λ f eb.
    let w = g.V.Windows.held c.args.self.now.window in
    c.begin.ensures w
    ∙ ap (λ o. begun_guess (g.V.Windows.blocks c.args.self.now.window) o f (seen w c.args.self.now.state))
    (sym c.in-Some.is)

pub returns-in-None-clause-change : goal.returns-in-None-clause-change
returns-in-None-clause-change g c = λ f eb.
    let w = g.V.Windows.held c.args.self.now.window in
    let s = c.args.self.now.state in
    c.begin_predicted.ensures w
    ∙ ap₂ (λ bs k. begun_predicted bs k (predicted bs s.predictor k) (seen w s)) c.image.ensures (sym eb)
    ∙ ap (λ o. begun_guess (g.V.Windows.blocks c.args.self.now.window) o f (seen w s)) (sym c.in-None.is)
