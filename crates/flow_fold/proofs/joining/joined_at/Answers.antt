use Rattle.flow_fold.proofs.Following.{stands_on}
use Rattle.flow_fold.proofs.joining.joined_at.Goals as goal

pub returns : goal.returns
returns c =
    stands_on c.args.block c.in_ok-left.left c.in_ok-right.right c.in_ok-left.ensures c.in_ok-right.ensures
