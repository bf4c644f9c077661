use Rattle.std.proofs.Common.{◌+◌, ◌||◌, not, false, slice_get, slice_index_or, refl, arith}
use Rattle.std.specs.Prelude.{is_none}
use Rattle.commit_flush.proofs.BitFacts.{all_to, none_yet, one_more}
use Rattle.commit_flush.proofs.ObserveFacts.{past_reads}
use Rattle.commit_flush.proofs.observing.unread_in.Goals as goal

pub loop-read-init : goal.loop-read-init
loop-read-init c = none_yet
    (λ k. not (is_none (slice_get c.args.block.now.reads.items k) || slice_index_or c.args.held.now.reads k false))

pub loop-read-preserved : goal.loop-read-preserved
loop-read-preserved c =
    one_more c.loop-read.bits _ c.loop-read.read (c.loop-read.read + 1) _
    (λ k. not (is_none (slice_get c.args.block.now.reads.items k)
    || slice_index_or c.args.held.now.reads k false)) refl
    c.with_bit-bits.ensures.same c.with_bit-bits.ensures.here c.has_read.ensures.value c.loop-read.invariant

pub returns : goal.returns
returns c = λ r l. all_to _ c.loop-read.read
    (λ n. not (is_none (slice_get c.args.block.now.reads.items n) || slice_index_or c.args.held.now.reads n false))
    c.loop-read.invariant
    (past_reads c.args.block.now c.args.held.now c.loop-read.read
    (let n = c.declared-count.ensures.value in omega (arith, n))) r
