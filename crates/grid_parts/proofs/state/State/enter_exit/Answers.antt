use Rattle.std.proofs.Common.{ap, ◌∙◌}
use Rattle.block_predict.specs.Predicts.{with_history, entered}
use Rattle.grid_parts.specs.Seen.{seen}
use Rattle.grid_parts.proofs.PartFacts.{with_predictor}
use Rattle.grid_parts.proofs.state.State.enter_exit.Goals as goal

pub returns : goal.returns
returns g c = λ w.
    let s = c.args.self.now in
    ap (λ p. with_predictor p (seen w s)) (c.repair.ensures
    ∙ ap (λ h. with_history h s.predictor)
    (c.entered-history.ensures.value ∙ ap (λ h. entered h c.args.exit) c.get.ensures.value))
