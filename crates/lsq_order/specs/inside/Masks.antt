-- The next number of a mask: below a number, and from one on.
use Rattle.std.specs.Prelude.{◌≡◌, ℕ, ◌<◌, ◌≤◌, false}
use Rattle.base.specs.Rows.{has_bit}

-- from `end` on and below a number no bit is set
pub record IsEnd (mask below end : ℕ) : Type 0 where
  pub within : end ≤ below
  pub none : (i : ℕ) → end ≤ i → i < below → has_bit mask i ≡ false

-- from a number on and below `next` no bit is set
pub record IsNext (mask from next : ℕ) : Type 0 where
  pub onward : from ≤ next
  pub within : next ≤ 32
  pub none : (i : ℕ) → from ≤ i → i < next → has_bit mask i ≡ false
