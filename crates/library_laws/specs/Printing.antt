-- What the functions that print numbers do when they are called (C17 7.21.6.1).
use Rattle.std.specs.Prelude.{◌≡◌, ◌≢◌, ℕ, suc, ◌+◌, ◌-◌, ◌*◌, ◌^◌, ◌<◌, ◌≤◌, List, [], ◌∷◌, ◌++◌, Some, slice_get, length}
use Rattle.std.specs.Prelude.{◌%◌, replicate}
use Rattle.std.specs.Prelude.{decimal, ℤ, pos, negsuc, unsigned_abs}
use Rattle.std.specs.Fmt.{signed_decimal}
use Rattle.std.specs.Int.Digits.{digits_of}
use Rattle.c_tree.specs.Limits.{most_frame_bytes}
use Rattle.c_tree.specs.declared.typed.Callee.TheVariants.{Func}
use Rattle.c_tree.specs.declared.typed.TypedFunc.{TypedFunc}
use Rattle.c_tree.specs.declared.typed.TypedProgram.{TypedProgram}
use Rattle.c_meaning_spec.specs.declared.signal.Signal.TheVariants.{Value}
use Rattle.c_meaning_spec.specs.State.{State, Go}
use Rattle.c_meaning_spec.specs.Call.{called}
use Rattle.c_meaning_spec.specs.Eval.{meaning}
use Rattle.c_tree.specs.declared.token.Kind.TheVariants.{Int, Long}
use Rattle.c_constant.specs.Kinds.{number, IsWord}
use Rattle.library_laws.specs.Printers.{Places, unsigned_printer, signed_printer, hexadecimal_printer}
use Rattle.library_laws.specs.FieldPrinters.{digits_printer, fill_printer, size_counter, character_printer}
use Rattle.library_laws.specs.Fields.{padded, fill_of}
use Rattle.library_laws.specs.Numerals.{numeral, hexadecimal}

-- the program has the function, by its number
abbrev pub IsFunction : TypedProgram → ℕ → TypedFunc → Type 0
IsFunction P f F = slice_get P.functions f ≡ Some F

-- a state in which calls find room for so many more bytes of frames, and in which each array has its second size told,
-- as in each state of an evaluation
pub record HasRoom (s : State) (bytes : ℕ) : Type 0 where
  pub fits : s.room + bytes ≤ most_frame_bytes
  pub told : length s.rows ≡ length s.arrays

-- a call of function f, with these arguments, writes the text and gives its length, in so many steps: nothing else
-- changes, whatever stock is left
abbrev pub Writes : TypedProgram → ℕ → List ℕ → State → ℕ → List ℕ → Type 0
Writes P f arguments s steps text =
    (k : ℕ) → called (meaning P) P (Func f) arguments (record s { stock = steps + k })
    ≡ Go (Value (length text)) (record s { stock = k; output = s.output ++ text })

-- a call of function f, with these arguments, gives a value in so many steps, and nothing else changes
abbrev pub Answers : TypedProgram → ℕ → List ℕ → State → ℕ → ℕ → Type 0
Answers P f arguments s steps v =
    (k : ℕ) → called (meaning P) P (Func f) arguments (record s { stock = steps + k })
    ≡ Go (Value v) (record s { stock = k })

-- `Writes` in at most so many steps
pub record WritesWithin (P : TypedProgram) (f : ℕ) (arguments : List ℕ) (s : State) (most : ℕ) (text : List ℕ)
    : Type 0 where
  pub steps : ℕ
  pub few : steps ≤ most
  pub writes : Writes P f arguments s steps text

-- PRINT.U

-- the bytes of the frames of a call that writes so many digits: one call a digit
abbrev pub digits_room : ℕ → ℕ
digits_room d = 160 * d

-- its steps: 23 a digit, but for the first, which asks for no other
abbrev pub digits_steps : ℕ → ℕ
digits_steps d = 23 * d - 3

-- each unsigned long is written as its decimal numeral
abbrev pub PrintsUnsigned : Type 0
PrintsUnsigned =
    (P : TypedProgram) (l : Places) (f n : ℕ) (s : State) → IsFunction P f (unsigned_printer l f) → n < 2 ^ 64
    → HasRoom s (digits_room (length (decimal n)))
    → Writes P f (n ∷ []) s (digits_steps (length (decimal n))) (decimal n)

-- PRINT.D

-- the bytes of the frames of a call that writes this number: one frame, and those for the digits of its magnitude
abbrev pub signed_room : ℤ → ℕ
signed_room z = 152 + digits_room (length (decimal (unsigned_abs z)))

-- its steps, with those of the digits
abbrev pub signed_steps : ℤ → ℕ
signed_steps (pos n) = 9 + digits_steps (length (decimal n))
signed_steps (negsuc n) = 17 + digits_steps (length (decimal (suc n)))

-- each long is written as its decimal numeral, behind `-` where it is negative
abbrev pub PrintsSigned : Type 0
PrintsSigned =
    (P : TypedProgram) (l m : Places) (f g w : ℕ) (s : State) → IsFunction P f (unsigned_printer l f)
    → IsFunction P g (signed_printer m f) → w < 2 ^ 64 → HasRoom s (signed_room (number Long w))
    → Writes P g (w ∷ []) s (signed_steps (number Long w)) (signed_decimal (number Long w))

-- PRINT.X

-- each unsigned long is written as its hexadecimal numeral: a digit takes a frame of 168 bytes and at most 31 steps
abbrev pub PrintsHexadecimal : Type 0
PrintsHexadecimal =
    (P : TypedProgram) (l : Places) (f n : ℕ) (s : State) → IsFunction P f (hexadecimal_printer l f) → n < 2 ^ 64
    → HasRoom s (168 * length (hexadecimal n))
    → WritesWithin P f (n ∷ []) s (31 * length (hexadecimal n)) (hexadecimal n)

-- PRINT.DIGITS

-- each unsigned long is written in each base from 2 to 36, with letters that are bytes: a digit takes a frame of 184
-- bytes and 31 steps, and the call that writes none a frame and 8 steps
abbrev pub PrintsDigits : Type 0
PrintsDigits =
    (P : TypedProgram) (l : Places) (f n base letters : ℕ) (s : State) → IsFunction P f (digits_printer l f)
    → n < 2 ^ 64 → 2 ≤ base → base ≤ 36 → letters + base ≤ 256
    → HasRoom s (184 * length (numeral base letters n) + 184)
    → Writes P f (n ∷ base ∷ letters ∷ []) s (31 * length (numeral base letters n) + 8) (numeral base letters n)

-- PRINT.FILL

-- a number, and 0 for a negative one
abbrev pub from_zero : ℤ → ℕ
from_zero (pos n) = n
from_zero (negsuc n) = 0

-- the byte of a character is written so many times, and never where the count is negative: 10 steps each, and 10 more
abbrev pub Fills : Type 0
Fills =
    (P : TypedProgram) (l : Places) (f c count : ℕ) (s : State) → IsFunction P f (fill_printer l) → IsWord Int count
    → HasRoom s 168
    → Writes P f (c ∷ count ∷ []) s (10 * from_zero (number Int count) + 10)
    (replicate (from_zero (number Int count)) (c % 256))

-- PRINT.SIZE

-- the digits of an unsigned long in a base from 2 to 36 are counted: 9 steps each, and 10 more
abbrev pub CountsDigits : Type 0
CountsDigits =
    (P : TypedProgram) (l : Places) (f n base : ℕ) (s : State) → IsFunction P f (size_counter l) → n < 2 ^ 64
    → 2 ≤ base → base ≤ 36 → HasRoom s 168
    → Answers P f (n ∷ base ∷ []) s (9 * length (digits_of base n) + 10) (length (digits_of base n))

-- PRINT.CHAR

-- The byte of a character is written in a field, by spaces behind or, for another fill than `-`, in front: C17 gives
-- `%c` no `0` (7.21.6.1, paragraph 6).
abbrev pub PrintsCharacter : Type 0
PrintsCharacter =
    (P : TypedProgram) (l m : Places) (f g c fill width : ℕ) (s : State) → IsFunction P f (fill_printer l)
    → IsFunction P g (character_printer m f) → fill < 2 ^ 31 → width < 2 ^ 31 → fill ≢ 48 → HasRoom s 344
    → WritesWithin P g (c ∷ fill ∷ width ∷ []) s (10 * width + 36) (padded (fill_of fill) width [] ((c % 256) ∷ []))
