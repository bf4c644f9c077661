use Rattle.trips_messages.proofs.MendedLemmas.{blank_more}
use Rattle.trips_messages.proofs.mending.put_blanks.Goals as goal

pub loop-i-preserved : goal.loop-i-preserved
loop-i-preserved c = blank_more c.loop-i._i c.args.out.now.items c.loop-i.out.items _ c.loop-i.invariant
    c.in_ok-put_blank.ensures.ok
