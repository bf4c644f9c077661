use Rattle.std.proofs.Common.{false, slice_get, slice_index_or}
use Rattle.commit_flush.proofs.StepFacts.{unread_next}
use Rattle.commit_flush.proofs.allowed.is_unread.Goals as goal

pub returns : goal.returns
returns c = λ s.
    unread_next s (slice_get c.args.block.now.reads.items c.args.read)
    (slice_index_or c.args.held.now.reads c.args.read false) c.has_read.result c.has_read.ensures.value
