-- The arguments of a call as they are kept: the first scalars of the function that is called.
use Rattle.std.specs.Prelude.{ℕ, List, [], ◌∷◌, Option, Some, None, Bool, cond}

-- the word of a scalar
abbrev pub word_of : Option ℕ → ℕ
word_of None = 0
word_of (Some w) = w

-- the words of scalars that are set
abbrev pub words : List (Option ℕ) → List ℕ
words [] = []
words (c ∷ cs) = word_of c ∷ words cs

-- the values of places, each by whether it is set and by its word
abbrev pub values : List Bool → List ℕ → List (Option ℕ)
values [] ws = []
values (b ∷ bs) [] = []
values (b ∷ bs) (w ∷ ws) = (cond b (Some w) None) ∷ values bs ws

-- what stands alone in a list
abbrev pub alone : List (Option ℕ) → Option ℕ
alone [] = None
alone (c ∷ []) = c
alone (c ∷ d ∷ cs) = None
