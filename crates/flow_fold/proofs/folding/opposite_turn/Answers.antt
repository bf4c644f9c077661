use Rattle.flow_fold.specs.inside.Folds.{opposite}
use Rattle.flow_fold.proofs.folding.opposite_turn.Goals as goal

pub returns-in-Some : goal.returns-in-Some
returns-in-Some c =
    let a = c.in_ok-opposed.ensures in
    let b = c.in-Some.is in
    opposite (cc)
