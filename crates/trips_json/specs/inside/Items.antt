-- Items of a list of JSON, line by line.
use Rattle.std.specs.Prelude.{Bool, not, ◌||◌, if◌then◌else◌, List, [], ◌∷◌, ◌++◌, ℕ}
use Rattle.trips_json.specs.Lines.{is_value}

-- what is written of a line: its text where it is one of these, behind a comma where an item stands before it
unfoldable pub piece : (List ℕ → Bool) → (List ℕ → List ℕ) → Bool → List ℕ → List ℕ
piece is text later line = if is line then (if later then 44 ∷ text line else text line) else []

-- what is written of lines
abbrev pub items : (List ℕ → Bool) → (List ℕ → List ℕ) → Bool → List (List ℕ) → List ℕ
items is text later [] = []
items is text later (line ∷ lines) =
    piece is text later line ++ items is text (later || is line) lines

-- the line stands among the strings: each does, or each that is no value
abbrev pub is_other : Bool → List ℕ → Bool
is_other all line = all || not (is_value line)
