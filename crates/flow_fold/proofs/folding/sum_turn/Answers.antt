use Rattle.flow_fold.specs.inside.Folds.{sum}
use Rattle.flow_fold.proofs.folding.sum_turn.Goals as goal

pub returns-in-Some : goal.returns-in-Some
returns-in-Some c =
    let a = c.in_ok-added.ensures in
    let d = c.as_slice.ensures.value in
    let b = c.in-Some.is in
    sum (cc)
