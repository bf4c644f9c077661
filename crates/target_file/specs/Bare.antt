-- What a user's file of target text tells (docs/MACHINE.md, "Target text"): its text without comments, without blanks
-- at the ends of its lines, and without the lines that are empty then.
use Rattle.std.specs.Prelude.{ℕ, ◌+◌, ◌-◌, ◌==◌, List, [], ◌∷◌, ◌++◌, Bool, true, false, not, ◌&&◌, ◌||◌}
use Rattle.std.specs.Prelude.{if◌then◌else◌}

-- whether a list has no item
abbrev pub is_empty : {A : Type 0} → List A → Bool
is_empty [] = true
is_empty (x ∷ xs) = false

-- a space, a tab or a carriage return
abbrev pub is_blank : ℕ → Bool
is_blank c = (c == 32) || ((c == 9) || (c == 13))

-- a character in front of what follows it on its line, left out where it is a blank and nothing follows
abbrev pub kept : ℕ → List ℕ → List ℕ
kept c [] = if is_blank c then [] else c ∷ []
kept c (d ∷ ds) = c ∷ d ∷ ds

-- what a line tells: all before its first `#`, without the blanks at the end of that
abbrev pub told : List ℕ → List ℕ
told [] = []
told (c ∷ cs) = if c == 35 then [] else kept c (told cs)

-- a character in front of the first of some lines
abbrev pub in_first : ℕ → List (List ℕ) → List (List ℕ)
in_first c [] = (c ∷ []) ∷ []
in_first c (l ∷ ls) = (c ∷ l) ∷ ls

-- the lines of a text, without their line feeds; the last one is what comes after the last line feed
abbrev pub lines_of : List ℕ → List (List ℕ)
lines_of [] = [] ∷ []
lines_of (c ∷ cs) = if c == 10 then [] ∷ lines_of cs else in_first c (lines_of cs)

-- what is left of a line that tells this, and that a line feed ends or not: where it tells nothing, nothing
abbrev pub line_text : Bool → List ℕ → List ℕ
line_text ended tells = if ended && not (is_empty tells) then tells ++ 10 ∷ [] else tells

-- what is left of some lines, each but the last ended by a line feed
abbrev pub bare_lines : List (List ℕ) → List ℕ
bare_lines [] = []
bare_lines (l ∷ ls) = line_text (not (is_empty ls)) (told l) ++ bare_lines ls

-- what is left of a text
unfoldable pub bare : List ℕ → List ℕ
bare text = bare_lines (lines_of text)

-- how many lines are left out before the one that is kept behind so many others; where so many are not kept, how many
-- lines with a line feed are left out at all
abbrev pub left_out : ℕ → List (List ℕ) → ℕ
left_out k [] = 0
left_out k (l ∷ ls) = if is_empty (told l) then (if is_empty ls then 0 else 1) + left_out k ls
    else (if k == 0 then 0 else left_out (k - 1) ls)

-- the number that a line of what is left of a text has in the text itself; both are counted from 1
unfoldable pub line_in_file : List ℕ → ℕ → ℕ
line_in_file text line = line + left_out (line - 1) (lines_of text)
