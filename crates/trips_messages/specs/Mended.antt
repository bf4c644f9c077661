-- A text without a fault: the expression around it is 1, and blanks before that, so that each byte keeps its place.
use Rattle.std.specs.Prelude.{ℕ, ◌-◌, min, List, [], ◌∷◌, ◌++◌, length, take, drop, replicate}
use Rattle.trips_messages.specs.Classes.{Tokens}
use Rattle.trips_messages.specs.Spans.{begin_of, end_of}

-- so many bytes that are a 1
abbrev pub patch : ℕ → List ℕ
patch n = replicate (n - 1) 32 ++ take n (49 ∷ [])

-- the text with a 1 from one offset to another
abbrev pub patched : List ℕ → ℕ → ℕ → List ℕ
patched text from to = take from text ++ (patch (to - from) ++ drop to text)

-- the same within the text
abbrev pub patched_within : List ℕ → ℕ → ℕ → List ℕ
patched_within text from to = patched text (min from (min to (length text))) (min to (length text))

-- the text without the fault at an offset, whose first form had these tokens
abbrev pub mended : List ℕ → Tokens → ℕ → List ℕ
mended text ts o =
    let from = begin_of o ts in patched_within text from (end_of from (length text) ts)
