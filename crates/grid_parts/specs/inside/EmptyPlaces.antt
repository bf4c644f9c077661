-- Places of a frame in which nothing has come.
use Rattle.std.specs.Prelude.{◌≡◌, ℕ, ◌<◌, None}
use Rattle.operand_net.specs.Places.{Places}
use Rattle.operand_net.specs.inside.Places.{come}

-- nothing has come in the first k places of a frame
abbrev pub AreQuiet : Places → ℕ → ℕ → Type 0
AreQuiet m n k = (p : ℕ) → p < k → come n p (m n p) ≡ None
