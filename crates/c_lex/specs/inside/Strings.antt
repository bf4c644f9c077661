-- What the scanning functions of string literals compute.
use Rattle.std.specs.Prelude.{ℕ, zero, suc, ◌+◌, min, if◌then◌else◌, nat_eq, nat_le, [], ◌∷◌, ◌++◌, take}
use Rattle.std.specs.Prelude.{Option, Some, None}
use Rattle.c_lex.specs.Ascii as ascii
use Rattle.c_lex.specs.Bytes.{Bytes, by_class}
use Rattle.c_lex.specs.inside.Runs.{run_len}
use Rattle.c_lex.specs.Constants.{is_digit_in, number_of, simple}
use Rattle.c_lex.specs.Strings.{is_ordinary, string_name}

-- a character with so many bytes behind its first, whose value has to be a byte
abbrev pub byte_of : ℕ → ℕ → Option (ℕ × ℕ)
byte_of n v = if nat_le v 255 then Some (n, v) else None

-- an octal escape sequence, after its `\`: up to three digits
abbrev pub octal_at : Bytes → Option (ℕ × ℕ)
octal_at [] = None
octal_at (d ∷ ds) =
    let n = min (run_len (by_class (is_digit_in 8)) d ds) 2 in byte_of (suc n) (number_of 8 (d ∷ take n ds))

-- a hexadecimal one, after its `\x`
abbrev pub hexadecimal_at : Bytes → Option (ℕ × ℕ)
hexadecimal_at [] = None
hexadecimal_at (d ∷ ds) =
    let n = run_len (by_class (is_digit_in 16)) d ds in
    if is_digit_in 16 d then byte_of (suc (suc n)) (number_of 16 (d ∷ take n ds)) else None

-- a simple one, of this value
abbrev pub simple_at : Option ℕ → Option (ℕ × ℕ)
simple_at None = None
simple_at (Some v) = Some (1, v)

-- an escape sequence, after its `\`
abbrev pub escape_at : Bytes → Option (ℕ × ℕ)
escape_at [] = None
escape_at (b ∷ bs) =
    if nat_eq b ascii.lower_x then hexadecimal_at bs
    else if is_digit_in 8 b then octal_at (b ∷ bs)
    else simple_at (simple b)

-- the character of a literal that begins with this byte: how many bytes it has behind that, and its value
abbrev pub character_at : ℕ → Bytes → Option (ℕ × ℕ)
character_at b bs =
    if nat_eq b ascii.backslash then escape_at bs
    else if is_ordinary b then Some (0, b)
    else None

-- how many bytes there are behind its first
abbrev pub length_at : Option (ℕ × ℕ) → ℕ
length_at None = 0
length_at (Some x) = x.0

-- what is left of a literal, with a byte before it
abbrev pub passed : Option (ℕ × Bytes) → Option (ℕ × Bytes)
passed None = None
passed (Some l) = Some (suc l.0, l.1)

-- what is left of a literal, with the first byte of a character before it
abbrev pub joined : Option (ℕ × ℕ) → Option (ℕ × Bytes) → Option (ℕ × Bytes)
joined None l = None
joined (Some x) None = None
joined (Some x) (Some l) = Some (suc l.0, x.1 ∷ l.1)

-- how many bytes stand before the closing `"`, and their values, where so many bytes still belong to a character
abbrev pub values_from : ℕ → Bytes → Option (ℕ × Bytes)
values_from k [] = None
values_from zero (b ∷ bs) =
    if nat_eq b ascii.double_quote then Some (0, [])
    else joined (character_at b bs) (values_from (length_at (character_at b bs)) bs)
values_from (suc k) (b ∷ bs) = passed (values_from k bs)

-- what is left of a literal, with so many bytes and these values before it
abbrev pub behind : ℕ → Bytes → Option (ℕ × Bytes) → Option (ℕ × Bytes)
behind n w None = None
behind n w (Some l) = Some (n + l.0, w ++ l.1)

-- a literal after its first `"`: how many bytes stand before the closing one, and its name
abbrev pub literal_of : Bytes → Option (ℕ × Bytes)
literal_of text = behind 0 (string_name []) (values_from 0 text)

-- so many bytes, and this name
abbrev pub with_name : Option ℕ → Bytes → Option (ℕ × Bytes)
with_name None w = None
with_name (Some n) w = Some (n, w)
