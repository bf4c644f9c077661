use Rattle.predication.proofs.EndLemmas.{set_ends}
use Rattle.predication.proofs.emitting.set.Goals as goal

pub returns : goal.returns
returns c =
    set_ends c.args.guard c.args.work.now c.operand.new.work c.second.new.work c.push.new.work c.args.names.now
    c.name.new.names c.args.to c.args.op c.args.a c.args.b c.in_ok-left.left c.in_ok-right.right c.in_ok-at.at
    c.takes_right.result c.bit_set-bit.result c.takes_right.ensures c.bit_set-bit.ensures
    c.in_ok-left.ensures.adds c.in_ok-left.ensures.sources c.in_ok-right.ensures.adds
    c.in_ok-right.ensures.sources c.in_ok-at.ensures.at c.in_ok-at.ensures.adds
    c.in_ok-name.ensures.env c.in_ok-name.ensures.bits c.in_ok-name.ensures.sets
