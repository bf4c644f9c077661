use Rattle.flow_fold.proofs.Following.{stands_on}
use Rattle.flow_fold.proofs.striding.stridden_at.Goals as goal

pub returns : goal.returns
returns c =
    stands_on c.args.block c.in_ok-led.led c.in_ok-last.last
    (stands_on c.args.block c.in_ok-summed.summed c.in_ok-led.led c.in_ok-summed.ensures c.in_ok-led.ensures)
    c.in_ok-last.ensures
