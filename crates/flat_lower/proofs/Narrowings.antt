-- A conversion to a type that holds all words of the source's type leaves each of these as it is.
use Rattle.std.proofs.Common.{◌≡◌, ℕ, ◌+◌, ◌%◌, ◌^◌, ◌<◌, Bool, true, false, cond, refl, ◌∙◌, arith}
use Rattle.std.specs.Prelude.{nat_eq}
use Rattle.c_tree.specs.declared.Kind.{Kind}
use Rattle.c_tree.specs.declared.Kind.TheVariants.{Char, UChar, Short, UShort, Int, UInt, Long, ULong}
use Rattle.c_tree.specs.declared.Kind.TheVariants as kind
use Rattle.c_constant.specs.Kinds.{IsWord, converted}
use Rattle.c_constant.proofs.Conversions.{converted_is}
use Rattle.trips_isa.specs.declared.op.Op.TheVariants as op
use Rattle.trips_isa.specs.Alu.{alu_of, test}
use Rattle.flat_lower.specs.inside.Narrowing.{is_within}

-- in a char's range, read by sign
char_in : (w : ℕ) → IsWord Char w → (w + 128) % 2 ^ 64 < 256
char_in w h = h.narrow

uchar_in : (w : ℕ) → IsWord UChar w → w < 256
uchar_in w h = h.narrow

short_in : (w : ℕ) → IsWord Short w → (w + 32768) % 2 ^ 64 < 65536
short_in w h = h.narrow

ushort_in : (w : ℕ) → IsWord UShort w → w < 65536
ushort_in w h = h.narrow

int_in : (w : ℕ) → IsWord Int w → (w + 2147483648) % 2 ^ 64 < 4294967296
int_in w h = h.narrow

uint_in : (w : ℕ) → IsWord UInt w → w < 4294967296
uint_in w h = h.narrow

bool_in : (w : ℕ) → IsWord kind.Bool w → w < 2
bool_in w h = h.narrow

-- Where each word of a type is one of another, this one is.
pub within_word : (j k : Kind) (w : ℕ) → is_within j k ≡ true → IsWord j w → IsWord k w
within_word Char Char w e h = h
within_word Char Short w e h =
    let b = h.below in let n = char_in w h in record { below = omega arith; narrow = omega arith }
within_word Char Int w e h =
    let b = h.below in let n = char_in w h in record { below = omega arith; narrow = omega arith }
within_word Char Long w e h = let b = h.below in record { below = omega arith; narrow = omega arith }
within_word Char _ w e h = absurd (cc e)
within_word UChar Char w e h = absurd (cc e)
within_word UChar kind.Bool w e h = absurd (cc e)
within_word UChar _ w e h =
    let b = h.below in let n = uchar_in w h in record { below = omega arith; narrow = omega arith }
within_word Short Short w e h = h
within_word Short Int w e h =
    let b = h.below in let n = short_in w h in record { below = omega arith; narrow = omega arith }
within_word Short Long w e h = let b = h.below in record { below = omega arith; narrow = omega arith }
within_word Short _ w e h = absurd (cc e)
within_word UShort Char w e h = absurd (cc e)
within_word UShort UChar w e h = absurd (cc e)
within_word UShort Short w e h = absurd (cc e)
within_word UShort kind.Bool w e h = absurd (cc e)
within_word UShort _ w e h =
    let b = h.below in let n = ushort_in w h in record { below = omega arith; narrow = omega arith }
within_word Int Int w e h = h
within_word Int Long w e h = let b = h.below in record { below = omega arith; narrow = omega arith }
within_word Int _ w e h = absurd (cc e)
within_word UInt UInt w e h = h
within_word UInt Long w e h = let b = h.below in record { below = omega arith; narrow = omega arith }
within_word UInt ULong w e h = let b = h.below in record { below = omega arith; narrow = omega arith }
within_word UInt _ w e h = absurd (cc e)
within_word Long Long w e h = h
within_word Long _ w e h = absurd (cc e)
within_word ULong ULong w e h = h
within_word ULong _ w e h = absurd (cc e)
within_word kind.Bool kind.Bool w e h = h
within_word kind.Bool _ w e h = let n = bool_in w h in record { below = omega arith; narrow = omega arith }

flipped : (b : Bool) → test (cond b false true) ≡ cond b 0 1
flipped true = refl
flipped false = refl

-- The machine's test against 0 is the conversion to `_Bool`.
pub bool_test : (w : ℕ) → alu_of op.Tne w 0 ≡ converted kind.Bool w
unfolding converted
bool_test w = flipped (nat_eq w 0)

-- So a conversion leaves it as it is.
pub within_is : (j k : Kind) (w : ℕ) → is_within j k ≡ true → IsWord j w → converted k w ≡ w
within_is j k w e h = converted_is k w (within_word j k w e h)
