-- Beside what is believed of Reading.antt: fields of a line, read from left to right.
use Rattle.std.specs.Prelude.{◌≡◌, ℕ, zero, suc, ◌+◌, ◌-◌, ◌*◌, ℤ, pos, negsuc, List, [], ◌∷◌}
use Rattle.std.specs.Prelude.{take, drop, get_or, Option, Some, None, Bool}
use Rattle.std.specs.Prelude.{◌==◌, ◌&&◌, ◌||◌, nat_lt, nat_le, if◌then◌else◌, codes}
use Rattle.target_asm_spec.specs.Reading.{◌>>=◌}

-- what a call returned is what reading gives
abbrev pub ReadsAs : {X Y : Type 0} → (X → Y) → Option X → Option Y → Type 0
ReadsAs view None read = read ≡ None
ReadsAs view (Some x) read = read ≡ Some (view x)

-- the first that is there
abbrev pub or_else : {A : Type 0} → Option A → Option A → Option A
or_else None other = other
or_else (Some x) other = Some x

-- what comes after a word
unfoldable pub after_in : List ℕ → List ℕ → Option (List ℕ)
after_in [] text = Some text
after_in (c ∷ cs) [] = None
after_in (c ∷ cs) (d ∷ ds) = if c == d then after_in cs ds else None

-- 0 to 9, in ASCII
abbrev pub is_digit : ℕ → Bool
is_digit b = nat_le 48 b && nat_le b 57

-- how many digits a text begins with
unfoldable pub digits_in : List ℕ → ℕ
digits_in [] = 0
digits_in (b ∷ bs) = if is_digit b then suc (digits_in bs) else 0

-- a number of more than nine digits is past every field
unfoldable pub with_digit : ℕ → ℕ → ℕ
with_digit v b = if nat_lt v 100000000 then v * 10 + (b - 48) else 1000000000

-- the value of digits behind a value, the most significant first
unfoldable pub value_from : ℕ → List ℕ → ℕ
value_from v [] = v
value_from v (b ∷ bs) = value_from (with_digit v b) bs

-- so many digits are no number: none, or a zero before others
abbrev pub is_no_number : ℕ → List ℕ → Bool
is_no_number n text = n == 0 || (nat_lt 1 n && get_or text 0 0 == 48)

-- a number without a sign and without leading zeros
unfoldable pub natural_in : List ℕ → Option (ℕ × List ℕ)
natural_in text =
    if is_no_number (digits_in text) text then None
    else Some (value_from 0 (take (digits_in text) text), drop (digits_in text) text)

-- a number with a sign, by its size; there is no -0
abbrev pub below_zero : ℕ → List ℕ → Option (ℤ × List ℕ)
below_zero zero rest = None
below_zero (suc n) rest = Some (negsuc n, rest)

-- a number, by what follows a sign if the text begins with one
abbrev pub number_by : Option (List ℕ) → List ℕ → Option (ℤ × List ℕ)
number_by (Some rest) text = natural_in rest >>= λ n. below_zero n.0 n.1
number_by None text = natural_in text >>= λ n. Some (pos n.0, n.1)

-- a number; one below zero has a sign
unfoldable pub number_in : List ℕ → Option (ℤ × List ℕ)
number_in text = number_by (after_in (codes "-") text) text

-- a number after a space
unfoldable pub spaced_in : List ℕ → Option (ℤ × List ℕ)
spaced_in text = after_in (codes " ") text >>= number_in

-- a number in brackets after a word, as `G[5]`
unfoldable pub index_in : List ℕ → List ℕ → Option (ℤ × List ℕ)
index_in front text =
    after_in front text >>= λ r. number_in r >>= λ n.
    after_in (codes "]") n.1 >>= λ rest. Some (n.0, rest)

-- hexadecimal ------------------------------------------------------------------------------------

-- the value of a hexadecimal digit in lower case
unfoldable pub hex_value : ℕ → Option ℕ
hex_value b =
    if nat_le 48 b && nat_le b 57 then Some (b - 48) else (
    if nat_le 97 b && nat_le b 102 then Some (b - 87) else None)

-- the byte of two digits
unfoldable pub byte_in : List ℕ → Option (ℕ × List ℕ)
byte_in [] = None
byte_in (h ∷ []) = None
byte_in (h ∷ l ∷ rest) = hex_value h >>= λ x. hex_value l >>= λ y. Some (16 * x + y, rest)

-- the word of eight digits
unfoldable pub word_in : List ℕ → Option (ℕ × List ℕ)
word_in text =
    byte_in text >>= λ a. byte_in a.1 >>= λ b. byte_in b.1 >>= λ c. byte_in c.1 >>= λ d.
    Some (16777216 * a.0 + 65536 * b.0 + 256 * c.0 + d.0, d.1)
