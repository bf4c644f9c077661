use Rattle.trips_messages.proofs.ListedTexts.{item_step}
use Rattle.trips_explain_endings.specs.Endings.{call_told}
use Rattle.trips_explain_endings.proofs.calls.put_each.Goals as goal

pub loop-call-preserved : goal.loop-call-preserved
loop-call-preserved c = item_step (call_told c.args.file.now c.args.text.now c.args.definitions.now)
    c.loop-call.call-index c.args.calls.now 0 c.args.out.now.items c.loop-call.out.items _ c.loop-call-test.true
    c.loop-call.invariant c.in_ok-put_call.ensures.ok
