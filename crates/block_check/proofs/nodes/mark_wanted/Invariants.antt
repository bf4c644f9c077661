use Rattle.std.proofs.Common.{◌≡◌, ◌<◌, ◌+◌, ◌-◌, ◌&&◌, ◌||◌, ℕ, false, length, nat_le, nat_lt}
use Rattle.block_cases.specs.Cases.{bit}
use Rattle.block_cases.specs.Blocks.{in_mask}
use Rattle.block_check.proofs.nodes.mark_wanted.Given as goal

abbrev pub invariant-loop-mark : goal.invariant-loop-mark
invariant-loop-mark l = (k : ℕ) → k < l.mark-index → bit l.wanted k ≡ false

abbrev pub invariant-loop-w : goal.invariant-loop-w
invariant-loop-w l = (q : ℕ) → q < 449 → bit l.wanted q ≡ (nat_le 384 q && nat_lt q (384 + l.w))

abbrev pub invariant-loop-n : goal.invariant-loop-n
invariant-loop-n l = (q : ℕ) → q < 449 → bit l.wanted q
    ≡ ((nat_le 384 q && nat_lt q (384 + length l.block.writes.items)) || (nat_le 416 q
    && (nat_lt q (416 + l.n) && in_mask l.block.mask (q - 416))))
