-- The lines of a report, those of them that are a name with a number, and how many bytes a program put out.
use Rattle.std.specs.Prelude.{ℕ, suc, ◌==◌, nat_lt, nat_le, Bool, not, ◌&&◌, ◌||◌, if◌then◌else◌}
use Rattle.std.specs.Prelude.{List, [], ◌∷◌, length, take, drop, slice_index, Option, None, Some, codes}
use Rattle.std.specs.Prelude.{option_and_then, nat_eq}
use Rattle.std.specs.List.{list_all, onto_first, starts_with}
use Rattle.trips_requests.specs.Limits.{is_digit, is_number, most_seed, number_within}

-- the lines of a text, without their line feeds
abbrev pub lines_of : List ℕ → List (List ℕ)
lines_of [] = []
lines_of (c ∷ cs) = if c == 10 then [] ∷ lines_of cs else onto_first c (lines_of cs)

-- how many bytes stand before the first line feed
unfoldable pub line_size : List ℕ → ℕ
line_size [] = 0
line_size (c ∷ cs) = if c == 10 then 0 else suc (line_size cs)

-- no line feed is in it
abbrev pub is_one_line : List ℕ → Bool
is_one_line text = list_all (λ c. not (c == 10)) text

-- the first line of a text, without its line feed
abbrev pub first_line : List ℕ → List ℕ
first_line text = take (line_size text) text

-- what comes after that
abbrev pub behind_line : List ℕ → List ℕ
behind_line text = drop (suc (line_size text)) text

-- a letter, a digit or `_`
abbrev pub is_of_name : ℕ → Bool
is_of_name c = (nat_le 97 c && nat_le c 122) || ((nat_le 65 c && nat_le c 90) || (is_digit c || c == 95))

-- how many of these stand at the beginning of a line
unfoldable pub name_size : List ℕ → ℕ
name_size [] = 0
name_size (c ∷ cs) = if is_of_name c then suc (name_size cs) else 0

-- decimal digits of a number, at most 20 of them, without a zero in front
abbrev pub is_decimal : List ℕ → Bool
is_decimal digits = is_number digits
    && (nat_le (length digits) 20 && (length digits == 1 || not (slice_index digits 0 == 48)))

-- a space with a number behind it
abbrev pub is_spaced : List ℕ → Bool
is_spaced text = slice_index text 0 == 32 && is_decimal (drop 1 text)

-- a name, a space and a number, as `cycles 345`
unfoldable pub is_value : List ℕ → Bool
is_value line = not (name_size line == 0) && is_spaced (drop (name_size line) line)

-- THE OUTPUT

-- how many bytes the program put out by the line `output N` of a report
unfoldable pub size_told : List ℕ → Option ℕ
size_told line =
    if starts_with nat_eq line (codes "output ") then number_within most_seed (drop 7 line) else None

-- so many bytes with a line feed behind them begin a text
abbrev pub ended_at : List ℕ → ℕ → Bool
ended_at text size = nat_lt size (length text) && slice_index text size == 10

-- How many bytes the program put out of which a report tells: its first line says it, so many bytes stand behind that
-- line, and a line feed behind these. A report that has not this form, as of a refusal, tells of no output.
abbrev pub output_size : List ℕ → Option ℕ
output_size report =
    option_and_then (λ size. if ended_at (behind_line report) size then Some size else None)
    (size_told (first_line report))
