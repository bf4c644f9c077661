-- The place of a byte in a text: its column, and its line as a text.
use Rattle.std.specs.Prelude.{ℕ, suc, ◌+◌, Bool, if◌then◌else◌, nat_eq, List, [], ◌∷◌, length, take, drop}

-- the line feed
abbrev pub is_feed : ℕ → Bool
is_feed b = nat_eq b 10

-- how many bytes stand before the first line feed
abbrev pub line_length : List ℕ → ℕ
line_length [] = 0
line_length (b ∷ bs) = if is_feed b then 0 else suc (line_length bs)

-- where the last line of the bytes begins, `at` being the number of their first one, and `start` where its line
-- begins
abbrev pub start_from : ℕ → ℕ → List ℕ → ℕ
start_from at start [] = start
start_from at start (b ∷ bs) = start_from (suc at) (if is_feed b then suc at else start) bs

-- where the last line of the bytes begins
abbrev pub line_start : List ℕ → ℕ
line_start bytes = start_from 0 0 bytes

-- what stands before a byte on its line
abbrev pub front : List ℕ → ℕ → List ℕ
front text offset = let before = take offset text in drop (line_start before) before

-- its column, counted from 1
abbrev pub column : List ℕ → ℕ → ℕ
column text offset = length (front text offset) + 1
