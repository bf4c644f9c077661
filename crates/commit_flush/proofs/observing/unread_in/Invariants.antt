use Rattle.std.proofs.Common.{◌≡◌, ℕ, ◌&&◌, ◌||◌, not, nat_lt, false, slice_get, slice_index_or}
use Rattle.std.specs.Prelude.{is_none}
use Rattle.base.specs.Rows.{has_bit}
use Rattle.commit_flush.proofs.observing.unread_in.Given as goal

abbrev pub invariant-loop-read : goal.invariant-loop-read
invariant-loop-read l = (k : ℕ)
    → has_bit l.bits k ≡ (nat_lt k l.read
    && not (is_none (slice_get l.block.reads.items k) || slice_index_or l.held.reads k false))
