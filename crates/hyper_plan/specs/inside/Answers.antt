-- The answers of a plan that has one for each place: a place is a function or a statement, in the order of
-- the program.
use Rattle.std.specs.Prelude.{◌≡◌, ℕ, ◌+◌, Bool, true, ◌&&◌, List, [], ◌∷◌, ◌++◌, length, get_or}
use Rattle.ir_forms.specs.inside.FlatCode.{Function}
use Rattle.ir_forms.specs.inside.FlatFits.{steps_of}

-- whether each answer is to cut
abbrev pub only_cuts : List Bool → Bool
only_cuts [] = true
only_cuts (c ∷ cs) = c && only_cuts cs

-- the answers of a function: one for itself and one for each of its statements; where it has no room, each
-- is to cut
pub record AreAnswersOf (room : ℕ) (f : Function) (own : List Bool) : Type 0 where
  -- the function's own first
  pub size : length own ≡ 1 + steps_of f.body
  pub cuts : room ≡ 0 → only_cuts own ≡ true

-- the answers of functions, one after the other; a function whose room is not said has none
pub data AreAnswers (rooms : List ℕ) : List Function → List Bool → Type 0 where
  none : AreAnswers rooms [] []
  more : (fs : List Function) (f : Function) (cs own : List Bool) → AreAnswers rooms fs cs
      → AreAnswersOf (get_or rooms (length fs) 0) f own
      → AreAnswers rooms (fs ++ (f ∷ [])) (cs ++ own)
