use Rattle.std.proofs.Common.{ap, ◌∙◌}
use Rattle.block_predict.specs.Predicts.{learned}
use Rattle.grid_parts.specs.Seen.{seen}
use Rattle.grid_parts.proofs.PartFacts.{with_predictor}
use Rattle.grid_parts.proofs.state.State.learn.Goals as goal

pub returns : goal.returns
returns g c = λ w.
    let s = c.args.self.now in
    ap (λ p. with_predictor p (seen w s)) (c.learn.ensures
    ∙ ap (λ h. learned s.predictor c.args.block h c.args.exit) c.get-history.ensures.value)
