use Rattle.flow_fold.specs.inside.Folds.{mirror}
use Rattle.flow_fold.proofs.folding.mirror_turn.Goals as goal

pub returns-in_ok-m-in-Some : goal.returns-in_ok-m-in-Some
returns-in_ok-m-in-Some c =
    let a = c.in-Some.ensures in
    mirror c.in-Some.op (cc) c.in_ok-m-in-Some.ensures
