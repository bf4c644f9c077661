-- Which program a station serves: the first that has something for it. What it then does is what it does for that
-- program alone.
use Rattle.std.specs.Prelude.{ℕ, Bool, cond, List, [], ◌∷◌}
use Rattle.grid_cycle_spec.specs.Grid.{Grid}
use Rattle.smt_spec.specs.Programs.{Four, alone, put}

-- the first of some programs with something to do does it; where none has, nothing is done
abbrev pub first_does : {W : Type 0} → (ℕ → Grid W → Bool) → (ℕ → Grid W → Grid W) → List ℕ → Four W → Four W
first_does can does [] g = g
first_does can does (p ∷ ps) g =
    cond (can p (alone p g)) (put p (does p (alone p g)) g) (first_does can does ps g)

-- each of some programs does something, one after another
abbrev pub all_do : {W : Type 0} → (ℕ → Grid W → Grid W) → List ℕ → Four W → Four W
all_do does [] g = g
all_do does (p ∷ ps) g = all_do does ps (put p (does p (alone p g)) g)

-- all four programs, the first one first
abbrev pub all_four : List ℕ
all_four = 0 ∷ 1 ∷ 2 ∷ 3 ∷ []
