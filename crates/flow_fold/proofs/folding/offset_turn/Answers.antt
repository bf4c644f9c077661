use Rattle.flow_fold.specs.inside.Folds.{offset}
use Rattle.flow_fold.proofs.folding.offset_turn.Goals as goal

pub returns-in-Some : goal.returns-in-Some
returns-in-Some c =
    let a = c.in_ok-offset_of.ensures in
    let b = c.in-Some.is in
    offset (cc)
