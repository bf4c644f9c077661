use Rattle.flow_fold.specs.inside.Folds.{right_copy}
use Rattle.flow_fold.proofs.folding.right_turn.Goals as goal

pub returns-in_ok-m-in-Some : goal.returns-in_ok-m-in-Some
returns-in_ok-m-in-Some c =
    let a = c.in_ok-copied.ensures in
    let b = c.as_slice.ensures.value in
    let d = c.in-Some.is in
    right_copy c.in-Some.sources (cc) c.in_ok-m-in-Some.ensures
