use Rattle.std.proofs.Common.{◌≡◌, ℕ, ◌<◌, true}
use Rattle.commit_flush.specs.inside.Kept.{is_in}
use Rattle.commit_flush.proofs.orders.free_number.Given as goal

abbrev pub invariant-loop-number : goal.invariant-loop-number
invariant-loop-number l = (j : ℕ) → j < l.number → is_in j l.order ≡ true
