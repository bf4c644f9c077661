-- What the benchmark computes: the values of x, the letters, and how many steps that takes.
use Rattle.std.specs.Prelude.{ℕ, zero, suc, ◌+◌, ◌*◌, ◌%◌, List, [], ◌∷◌, ◌++◌}

-- x behind the calls of the functions below n, each of which gives 16 x + 120 + k, of which the low three decimal
-- digits are kept
abbrev pub value : ℕ → ℕ
value zero = 1
value (suc k) = (16 * value k + 120 + k) % 1000

-- the letter that a value is written as, from A to Z: 65 is the letter A
abbrev pub letter : ℕ → ℕ
letter x = 65 + x % 26

-- the letters behind the calls of the functions below n
abbrev pub letters : ℕ → List ℕ
letters zero = []
letters (suc n) = letters n ++ letter (value (suc n)) ∷ []

-- the steps of an evaluation with n functions
abbrev pub steps : ℕ → ℕ
steps n = 498 * n + 7
