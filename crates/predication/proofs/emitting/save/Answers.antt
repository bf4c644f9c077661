use Rattle.predication.proofs.EndLemmas.{save_ends}
use Rattle.predication.proofs.emitting.save.Goals as goal

pub returns : goal.returns
returns c =
    save_ends c.args.guard c.args.work.now c.operand.new.work c.operand-2.new.work c.take_number.new.work
    c.push.new.work c.args.names.now c.args.op c.args.address c.args.value c.in_ok-left.left c.in_ok-right.right
    c.in_ok-number.number c.in_ok-left.ensures.adds c.in_ok-left.ensures.sources c.in_ok-right.ensures.adds
    c.in_ok-right.ensures.sources c.in_ok-number.ensures.value c.in_ok-number.ensures.counted
    c.in_ok-push.ensures.adds
