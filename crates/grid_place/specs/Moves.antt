-- A block whose instructions stand in other slots, and whose targets follow them.
use Rattle.std.specs.Prelude.{◌≡◌, ℕ, ◌<◌, ◌≤◌, List, length, slice_index_or}

-- p takes each slot to a slot, and leaves every other number
pub record KeepsSlots (p : ℕ → ℕ) : Type 0 where
  pub within : (s : ℕ) → s < 128 → p s < 128
  pub beyond : (s : ℕ) → 128 ≤ s → p s ≡ s

-- p is a permutation of the slots, and q goes back
pub record Permutes (p q : ℕ → ℕ) : Type 0 where
  pub there : KeepsSlots p
  pub back : KeepsSlots q
  -- going there and back
  pub returns : (s : ℕ) → q (p s) ≡ s
  -- going back and there
  pub returned : (s : ℕ) → p (q s) ≡ s

-- where slot s goes, by the list of where each slot goes
abbrev pub goes : List ℕ → ℕ → ℕ
goes p s = slice_index_or p s s

-- a list of where each slot goes that is a permutation
pub record IsPermutation (p : List ℕ) : Type 0 where
  -- an entry for each slot
  pub size : length p ≡ 128
  -- from each slot the one that goes there
  pub back : ℕ → ℕ
  pub permutes : Permutes (goes p) back
