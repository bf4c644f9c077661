use Rattle.flow_fold.proofs.Following.{stands_on}
use Rattle.flow_fold.proofs.steps.fold.Goals as goal

pub returns : goal.returns
returns c =
    stands_on c.args.block c.in_ok-folded.folded c.in_ok-last.last c.in_ok-folded.ensures c.in_ok-last.ensures
