use Rattle.predication.proofs.EndLemmas.{load_ends}
use Rattle.predication.proofs.emitting.load.Goals as goal

pub returns : goal.returns
returns c =
    load_ends c.args.guard c.args.work.now c.operand.new.work c.take_number.new.work c.push.new.work c.args.names.now
    c.name.new.names c.args.to c.args.op c.args.address c.in_ok-left.left c.new.result c.in_ok-number.number
    c.in_ok-at.at c.in_ok-left.ensures.adds c.in_ok-left.ensures.sources c.in_ok-number.ensures.value
    c.in_ok-number.ensures.counted c.new.ensures.value c.in_ok-at.ensures.at c.in_ok-at.ensures.adds
    c.in_ok-name.ensures.env c.in_ok-name.ensures.bits c.in_ok-name.ensures.sets
