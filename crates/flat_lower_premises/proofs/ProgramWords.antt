-- The numbers of a text's tokens, behind its directives and macros, are words of their types: those of its raw
-- tokens, those of the headers, and those of the library.
use Rattle.std.proofs.Common.{◌≡◌, ◌≤◌, ◌<◌, ℕ, ◌-◌, ◌^◌, Bool, true, false, ◌&&◌, ◌||◌, nat_le, List, [], ◌∷◌}
use Rattle.std.proofs.Common.{refl, arith}
use Rattle.std.specs.Prelude.{nat_lt}
use Rattle.std.proofs.lemmas.Bool.Decides.{nat_tests}
use Rattle.c_tree.specs.declared.Kind.{Kind}
use Rattle.c_tree.specs.declared.Kind.TheVariants.{Char, UChar, Short, UShort, Int, UInt, Long, ULong}
use Rattle.c_tree.specs.declared.Kind.TheVariants as kind
use Rattle.c_tree.specs.declared.Form.TheVariants as form
use Rattle.c_pre.proofs.Kept.{Allows, is_wide}
use Rattle.c_lex.specs.Bytes.{Bytes}
use Rattle.c_lex.proofs.Basics.{and_left, and_right}
use Rattle.c_lex.specs.declared.directive.Header.{Header}
use Rattle.c_lex.specs.declared.directive.Header.TheVariants as header
use Rattle.c_pre.specs.Headers.{Row, limits, stdbool, stdlib, stdint, names_of}
use Rattle.c_pre.specs.Texts.{Tokens, Lexed}
use Rattle.c_pre.proofs.Kept.{EachToken}
use Rattle.c_pre.proofs.KeptLines.{EachRow, HeadersHave}
use Rattle.c_pre.proofs.KeptPrograms.{program_keeps}
use Rattle.flat_lower_premises.specs.inside.Words.{FormHasWord, TokensHaveWords}
use Rattle.flat_lower_premises.proofs.LexedWords.{raw_has}

-- is the value a word of the type?
abbrev fits : Kind → ℕ → Bool
fits Int v = nat_lt v (2 ^ 31) || (nat_le (2 ^ 64 - 2 ^ 31) v && nat_lt v (2 ^ 64))
fits UInt v = nat_lt v (2 ^ 32)
fits Long v = nat_lt v (2 ^ 64)
fits ULong v = nat_lt v (2 ^ 64)
fits _ v = false

int_fits : (v : ℕ) (b : Bool) → nat_lt v (2 ^ 31) ≡ b
    → (b || (nat_le (2 ^ 64 - 2 ^ 31) v && nat_lt v (2 ^ 64))) ≡ true → FormHasWord (form.Number v Int)
int_fits v true t e = let h : v < 2 ^ 31 = grind (arith, nat_tests) in
    record { below = omega arith; narrow = omega arith }
int_fits v false t e =
    let l : 2 ^ 64 - 2 ^ 31 ≤ v = grind (arith, nat_tests) in
    let h : v < 2 ^ 64 = grind (arith, nat_tests) in record { below = omega arith; narrow = omega arith }

fits_is : (k : Kind) (v : ℕ) → fits k v ≡ true → FormHasWord (form.Number v k)
fits_is Int v e = int_fits v (nat_lt v (2 ^ 31)) refl e
fits_is UInt v e =
    let h : v < 2 ^ 32 = grind (arith, nat_tests) in record { below = omega arith; narrow = omega arith }
fits_is Long v e =
    let h : v < 2 ^ 64 = grind (arith, nat_tests) in record { below = omega arith; narrow = omega arith }
fits_is ULong v e =
    let h : v < 2 ^ 64 = grind (arith, nat_tests) in record { below = omega arith; narrow = omega arith }
fits_is Char v e = absurd (cc)
fits_is UChar v e = absurd (cc)
fits_is Short v e = absurd (cc)
fits_is UShort v e = absurd (cc)
fits_is kind.Bool v e = absurd (cc)

-- is the value of each row?
abbrev rows_fit : List Row → Bool
rows_fit [] = true
rows_fit (row ∷ rows) = fits row.2 row.1 && rows_fit rows

rows_have : (rows : List Row) → rows_fit rows ≡ true → EachRow FormHasWord rows
rows_have [] e = tt
rows_have (row ∷ rows) e = (
  fits_is row.2 row.1 (and_left (fits row.2 row.1) (rows_fit rows) e),
  rows_have rows (and_right (fits row.2 row.1) (rows_fit rows) e),
)

limits_fit : rows_fit limits ≡ true
unfolding limits
limits_fit = refl

stdint_fits : rows_fit stdint ≡ true
unfolding stdint
stdint_fits = refl

header_rows : (h : Header) → EachRow FormHasWord (names_of h)
header_rows header.Stdio = tt
header_rows header.Ctype = tt
header_rows header.Limits = rows_have limits limits_fit
header_rows header.Stdbool = rows_have stdbool refl
header_rows header.Stdlib = rows_have stdlib refl
header_rows header.Stdint = rows_have stdint stdint_fits
header_rows header.Stddef = tt
header_rows header.String = tt

headers_have : HeadersHave FormHasWord
headers_have h = record { rows = header_rows h; word = tt }

-- a number below 2^31 is a word of int and of the wider types
small_has : (n : ℕ) (k : Kind) → n < 2 ^ 31 → is_wide k ≡ true → FormHasWord (form.Number n k)
small_has n Int h w = record { below = omega arith; narrow = omega arith }
small_has n UInt h w = record { below = omega arith; narrow = omega arith }
small_has n Long h w = record { below = omega arith; narrow = omega arith }
small_has n ULong h w = record { below = omega arith; narrow = omega arith }
small_has n Char h w = absurd (cc)
small_has n UChar h w = absurd (cc)
small_has n Short h w = absurd (cc)
small_has n UShort h w = absurd (cc)
small_has n kind.Bool h w = absurd (cc)

-- what the library adds has words
library_has : Allows FormHasWord
library_has = record { include = tt; name = λ w. tt; key = λ k. tt; mark = λ m. tt; number = small_has }

-- the two ways to say it of each token
each_of : (ts : Tokens) → TokensHaveWords ts → EachToken FormHasWord ts
each_of [] h = tt
each_of (t ∷ ts) h = (h.0, each_of ts h.1)

of_each : (ts : Tokens) → EachToken FormHasWord ts → TokensHaveWords ts
of_each [] h = tt
of_each (t ∷ ts) h = (h.0, of_each ts h.1)

-- the numbers of a text's tokens are words of their types
pub lexed_has : (most : ℕ) (text : Bytes) (ts : Tokens) → Lexed most text ts → TokensHaveWords ts
lexed_has most text ts h =
    of_each ts
    (program_keeps FormHasWord most h.0 ts library_has headers_have (each_of h.0 (raw_has most text h.0 h.1)) h.2)
