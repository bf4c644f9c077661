-- What the scanning functions of character constants compute.
use Rattle.std.specs.Prelude.{ℕ, suc, if◌then◌else◌, nat_eq, nat_le, [], ◌∷◌, take, drop, Option, Some, None}
use Rattle.c_lex.specs.Ascii as ascii
use Rattle.c_lex.specs.Bytes.{Bytes, by_class}
use Rattle.c_lex.specs.inside.Runs.{run_len}
use Rattle.c_lex.specs.Constants.{is_digit_in, number_of, is_plain, simple}
use Rattle.c_lex.specs.Pieces.{begins_with}

-- a character of so many bytes, where the closing `'` follows
abbrev pub if_closed : ℕ → ℕ → Bytes → Option (ℕ × ℕ)
if_closed n v rest = if begins_with ascii.quote rest then Some (n, v) else None

-- one whose value is that of its digits, which has to be a byte
abbrev pub if_byte : ℕ → ℕ → Bytes → Option (ℕ × ℕ)
if_byte n v rest = if nat_le v 255 then if_closed n v rest else None

-- an octal escape sequence, after its `\`
abbrev pub octal_of : Bytes → Option (ℕ × ℕ)
octal_of bs =
    let n = run_len (by_class (is_digit_in 8)) 0 bs in
    if nat_le n 3 then if_byte (suc n) (number_of 8 (take n bs)) (drop n bs) else None

-- a hexadecimal escape sequence, after its `\x`
abbrev pub hexadecimal_of : Bytes → Option (ℕ × ℕ)
hexadecimal_of bs =
    let n = run_len (by_class (is_digit_in 16)) 0 bs in
    if nat_eq n 0 then None else if_byte (suc (suc n)) (number_of 16 (take n bs)) (drop n bs)

-- a simple escape sequence, before what follows it
abbrev pub simple_of : Option ℕ → Bytes → Option (ℕ × ℕ)
simple_of None bs = None
simple_of (Some v) bs = if_closed 2 v bs

-- an escape sequence, after its `\`
abbrev pub escape_of : Bytes → Option (ℕ × ℕ)
escape_of [] = None
escape_of (b ∷ bs) =
    if nat_eq b ascii.lower_x then hexadecimal_of bs
    else if is_digit_in 8 b then octal_of (b ∷ bs)
    else simple_of (simple b) bs

-- the character before the closing `'`: its length and value
abbrev pub character_of : Bytes → Option (ℕ × ℕ)
character_of [] = None
character_of (b ∷ bs) =
    if nat_eq b ascii.backslash then escape_of bs
    else if is_plain b then if_closed 1 b bs
    else None
