use Rattle.flow_fold.specs.inside.Folds.{compute}
use Rattle.flow_fold.proofs.folding.computed_turn.Goals as goal

pub returns-in-Some : goal.returns-in-Some
returns-in-Some c =
    let a = c.in_ok-computed.ensures in
    let b = c.in-Some.is in
    compute (cc)
