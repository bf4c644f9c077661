-- What the words of a command line say of the form of its answer.
use Rattle.std.specs.Prelude.{Bool, false, not, ◌||◌, List, [], ◌∷◌, codes, filter}
use Rattle.std.specs.List.{list_any}
use Rattle.std.specs.Str.{bytes_eq}
use Rattle.trips_requests.specs.Words.{Text}

-- the word that asks for JSON
abbrev pub is_asking : Text → Bool
is_asking word = bytes_eq word (codes "--json")

-- it stands among the words
abbrev pub is_json : List Text → Bool
is_json words = list_any is_asking words

-- the words without it
abbrev pub without_json : List Text → List Text
without_json words = filter (λ word. not (is_asking word)) words

-- the command is one whose report begins with what a program put out
abbrev pub has_output : List Text → Bool
has_output [] = false
has_output (name ∷ words) = bytes_eq name (codes "run")
    || (bytes_eq name (codes "bench") || (bytes_eq name (codes "eval") || bytes_eq name (codes "resume")))
