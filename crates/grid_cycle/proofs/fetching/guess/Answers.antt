use Rattle.std.proofs.Common.{sym, ap, ◌∙◌}
use Rattle.block_predict.specs.Predicts.{predicted}
use Rattle.grid_cycle.specs.inside.Follows.{guess}
use Rattle.grid_cycle.proofs.fetching.guess.Goals as goal

pub returns-in-Some : goal.returns-in-Some
returns-in-Some g c =
    let x = c.args.grid.now in
    ap (guess (g.V.Windows.blocks x.window) x.state.predictor c.args.block) (sym c.in-Some.is)

pub returns-in-None : goal.returns-in-None
returns-in-None g c =
    let x = c.args.grid.now in
    c.peek.ensures.value ∙ ap (λ bs. predicted bs x.state.predictor c.args.block) c.image.ensures
    ∙ ap (guess (g.V.Windows.blocks x.window) x.state.predictor c.args.block) (sym c.in-None.is)
