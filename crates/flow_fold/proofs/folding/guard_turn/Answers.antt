use Rattle.flow_fold.specs.inside.Folds.{guard_copy}
use Rattle.flow_fold.proofs.folding.guard_turn.Goals as goal

pub returns-in_ok-m-in-Some : goal.returns-in_ok-m-in-Some
returns-in_ok-m-in-Some c =
    let a = c.in-Some.ensures in
    guard_copy c.in-Some.g (cc) c.in_ok-m-in-Some.ensures
