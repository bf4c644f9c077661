-- Beside what is believed of Orders.antt: the faults of a target and of a number, which hang on no case.
use Rattle.std.specs.Prelude.{◌≡◌, ℕ, ◌<◌, Bool, true, false}

-- k is the least number below n that passes a test
pub record IsLeast (p : ℕ → Bool) (n k : ℕ) : Type 0 where
  -- one of the numbers that are tested
  pub below : k < n
  pub holds : p k ≡ true
  -- no lesser number passes
  pub least : (j : ℕ) → j < k → p j ≡ false
