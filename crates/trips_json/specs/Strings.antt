-- Strings of JSON (RFC 8259, section 7), of which each character stands for the byte of its number, and how they are
-- read back.
use Rattle.std.specs.Prelude.{ℕ, zero, suc, ◌+◌, ◌-◌, ◌*◌, ◌/◌, ◌%◌, ◌==◌, nat_lt, nat_le, ◌&&◌, ◌||◌}
use Rattle.std.specs.Prelude.{Bool, not, if◌then◌else◌, List, [], ◌∷◌, ◌++◌, codes}
use Rattle.std.specs.List.{flat_map}

-- a hexadecimal digit, lower-case
abbrev pub hex_digit : ℕ → ℕ
hex_digit n = if nat_lt n 10 then 48 + n else 87 + n

-- a byte that stands for itself: a character of ASCII that is printed, but no quote and no backslash
abbrev pub is_plain : ℕ → Bool
is_plain b = nat_le 32 b && (nat_lt b 127 && (not (b == 34) && not (b == 92)))

-- a byte by the number of its character
abbrev pub numbered : ℕ → List ℕ
numbered b = codes "\\u00" ++ hex_digit (b / 16) ∷ hex_digit (b % 16) ∷ []

-- a byte in a string
unfoldable pub escape : ℕ → List ℕ
escape b =
    if is_plain b then b ∷ []
    else if b == 10 then codes "\\n"
    else if b == 9 then codes "\\t"
    else if b == 34 || b == 92 then 92 ∷ b ∷ [] else numbered b

-- bytes in a string
abbrev pub escaped : List ℕ → List ℕ
escaped bytes = flat_map escape bytes

-- the string of bytes
unfoldable pub string_of : List ℕ → List ℕ
string_of bytes = 34 ∷ (escaped bytes ++ 34 ∷ [])

-- READING

-- the value of a hexadecimal digit
abbrev pub hex_value : ℕ → ℕ
hex_value c = if nat_lt c 58 then c - 48 else c - 87

-- what a character behind a backslash stands for, but `u`
abbrev pub named_by : ℕ → ℕ
named_by c = if c == 110 then 10 else if c == 116 then 9 else c

-- where the reading of a string stands: between two characters, behind a backslash, or behind some digits of a number
-- of this value, with so many left behind the next one
pub data Reading : Type 0 where
  between : Reading
  behind_slash : Reading
  in_number : ℕ → ℕ → Reading

-- the bytes for which characters of a string stand
abbrev pub read_from : Reading → List ℕ → List ℕ
read_from reading [] = []
read_from between (c ∷ cs) = if c == 92 then read_from behind_slash cs else c ∷ read_from between cs
read_from behind_slash (c ∷ cs) =
    if c == 117 then read_from (in_number 3 0) cs else named_by c ∷ read_from between cs
read_from (in_number zero value) (c ∷ cs) = (value * 16 + hex_value c) ∷ read_from between cs
read_from (in_number (suc left) value) (c ∷ cs) = read_from (in_number left (value * 16 + hex_value c)) cs

-- the bytes of a string without its quotes
abbrev pub unescaped : List ℕ → List ℕ
unescaped text = read_from between text
