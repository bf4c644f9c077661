use Rattle.flow_fold.proofs.Following.{stands_on}
use Rattle.flow_fold.proofs.striding.joined_at.Goals as goal

pub returns : goal.returns
returns c =
    stands_on c.args.block c.in_ok-node.node c.in_ok-last.last
    (stands_on c.args.block c.in_ok-base.base c.in_ok-node.node
    (stands_on c.args.block c.in_ok-direct.direct c.in_ok-base.base
    (stands_on c.args.block c.in_ok-right.right c.in_ok-direct.direct
    (stands_on c.args.block c.in_ok-left.left c.in_ok-right.right c.in_ok-left.ensures c.in_ok-right.ensures)
    c.in_ok-direct.ensures)
    c.in_ok-base.ensures)
    c.in_ok-node.ensures)
    c.in_ok-last.ensures
