use Rattle.trips_json.proofs.Turns.{item_step}
use Rattle.trips_json.specs.Strings.{escape}
use Rattle.trips_json.proofs.strings.put_bytes.Goals as goal

pub loop-byte-preserved : goal.loop-byte-preserved
loop-byte-preserved c = item_step escape c.loop-byte.byte-index c.args.bytes.now 0 c.args.out.now.items
    c.loop-byte.out.items _ c.loop-byte-test.true c.loop-byte.invariant c.in_ok-put_byte.ensures.ok
