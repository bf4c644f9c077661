use Rattle.trips_messages.proofs.ListedTexts.{item_step}
use Rattle.trips_messages.specs.Messages.{under}
use Rattle.trips_messages.proofs.marked.put_under.Goals as goal

pub loop-b-preserved : goal.loop-b-preserved
loop-b-preserved c = item_step under c.loop-b.b-index c.args.front.now 0 c.args.out.now.items c.loop-b.out.items _
    c.loop-b-test.true c.loop-b.invariant c.in_ok-put_one.ensures.ok
