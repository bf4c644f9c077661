use Rattle.loop_unroll.proofs.Views.{second_leg}
use Rattle.loop_unroll.proofs.turning.in_second.Goals as goal

pub returns : goal.returns
returns c =
    second_leg c.args.test c.args.yes.now c.args.no.now c.in_ok-yes.yes c.in_ok-all.all c.append.new.self c.args.more
    c.in_ok-yes.ensures c.in_ok-all.ensures c.in_ok-append.ensures.ok
