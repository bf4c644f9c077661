-- The fixed texts that the program writes, answers with a fixed text, and pieces of the reports of several
-- commands.
use Rattle.std.specs.Prelude.{◌≡◌, ℕ, List, [], ◌∷◌, ◌++◌, length, codes, decimal}
use Rattle.trips_requests.specs.declared.status.Status.{Status}

-- the report on words that are no request
unfoldable pub usage_text : List ℕ
usage_text = codes "usage\n"

-- the report on a file that cannot be read
unfoldable pub read_fault_text : List ℕ
read_fault_text = codes "read fault\n"

-- the report on a file that has too many bytes
unfoldable pub too_large_text : List ℕ
too_large_text = codes "refused file 2 TooLarge\n"

-- this status, with this text
abbrev pub IsFixed : Status → List ℕ → Status → List ℕ → Type 0
IsFixed given text s report = (s ≡ given) × (report ≡ text)

-- the stage that refuses a text, a fault's number and its name, and its line
abbrev pub on_line : List ℕ → ℕ → List ℕ
on_line name line = name ++ (codes " line " ++ (decimal line ++ codes "\n"))

-- the output's length, the output, and a line
abbrev pub output_and : List ℕ → List ℕ → List ℕ
output_and output line =
    codes "output " ++ decimal (length output) ++ 10 ∷ []
    ++ output ++ 10 ∷ [] ++ line ++ 10 ∷ []
