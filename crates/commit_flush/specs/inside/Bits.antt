-- The lowest bit of a word.
use Rattle.std.specs.Prelude.{◌≡◌, ℕ, ◌<◌, ◌≤◌, true, false}
use Rattle.base.specs.Rows.{has_bit}

-- the lowest bit of a word of 64 that is 1; 64 where there is none
pub record IsLowestBit (word bit : ℕ) : Type 0 where
  pub within : bit ≤ 64
  -- all lower bits are 0
  pub clear : (i : ℕ) → i < bit → has_bit word i ≡ false
  pub found : bit < 64 → has_bit word bit ≡ true
