use Rattle.null_outputs.proofs.Assembled.{whole_by_code}
use Rattle.null_outputs.proofs.assembly.completed.Goals as goal

pub returns : goal.returns
returns c =
    whole_by_code c.args.block c.in_ok-guess.guess c.in_ok-starts.starts c.as_slice-nodes.result.now
    c.as_slice.result.now
    c.in_ok-more.more c.in_ok-writes.writes c.in_ok-whole.whole c.as_slice-nodes.ensures.value
    c.as_slice.ensures.value
    c.in_ok-guess.ensures c.in_ok-starts.ensures c.in_ok-more.ensures c.in_ok-writes.ensures c.in_ok-whole.ensures
