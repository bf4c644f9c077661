use Rattle.loop_unroll.proofs.Views.{first_leg}
use Rattle.loop_unroll.proofs.turning.in_first.Goals as goal

pub returns : goal.returns
returns c =
    first_leg c.args.test c.args.yes.now c.args.no.now c.in_ok-all.all c.in_ok-no.no c.append.new.self c.args.more
    c.in_ok-all.ensures c.in_ok-no.ensures c.in_ok-append.ensures.ok
