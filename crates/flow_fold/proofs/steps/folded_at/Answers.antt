use Rattle.flow_fold.proofs.Following.{stands_on}
use Rattle.flow_fold.proofs.steps.folded_at.Goals as goal

pub returns : goal.returns
returns c =
    stands_on c.args.block c.in_ok-negative.negative c.in_ok-last.last
    (stands_on c.args.block c.in_ok-known.known c.in_ok-negative.negative
    (stands_on c.args.block c.in_ok-opposite.opposite c.in_ok-known.known
    (stands_on c.args.block c.in_ok-told.told c.in_ok-opposite.opposite
    (stands_on c.args.block c.in_ok-offset.offset c.in_ok-told.told
    (stands_on c.args.block c.in_ok-constant.constant c.in_ok-offset.offset
    (stands_on c.args.block c.in_ok-summed.summed c.in_ok-constant.constant
    (stands_on c.args.block c.in_ok-mirrored.mirrored c.in_ok-summed.summed
    (stands_on c.args.block c.in_ok-joined.joined c.in_ok-mirrored.mirrored
    (stands_on c.args.block c.in_ok-right.right c.in_ok-joined.joined
    (stands_on c.args.block c.in_ok-left.left c.in_ok-right.right
    (stands_on c.args.block c.in_ok-guarded.guarded c.in_ok-left.left c.in_ok-guarded.ensures c.in_ok-left.ensures)
    c.in_ok-right.ensures)
    c.in_ok-joined.ensures)
    c.in_ok-mirrored.ensures)
    c.in_ok-summed.ensures)
    c.in_ok-constant.ensures)
    c.in_ok-offset.ensures)
    c.in_ok-told.ensures)
    c.in_ok-opposite.ensures)
    c.in_ok-known.ensures)
    c.in_ok-negative.ensures)
    c.in_ok-last.ensures
