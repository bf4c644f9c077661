-- The nine integer types, their words and their conversions (C17 6.2.5, 6.2.6.2, 6.3.1).
use Rattle.std.specs.Prelude.{ℕ, ◌+◌, ◌-◌, ◌/◌, ◌%◌, ◌^◌, ℤ, pos, negsuc, Bool, true, false, cond}
use Rattle.std.specs.Prelude.{◌<◌, nat_eq, nat_lt, int_le, ◌&&◌, Option, Some, None}
use Rattle.std.specs.Int.{w64, cast_signed, cast_unsigned}
use Rattle.c_tree.specs.declared.Kind.{Kind}
use Rattle.c_tree.specs.declared.Kind.TheVariants.{Char, UChar, Short, UShort, Int, UInt, Long}
use Rattle.c_tree.specs.declared.Kind.TheVariants.{ULong}
use Rattle.c_tree.specs.declared.Kind.TheVariants as kind
use Rattle.c_constant.specs.declared.kinds.KindRow.{KindRow}

-- THE TABLE

-- the table of the types, from which all that follows is derived
abbrev pub row : Kind → KindRow
row Char = record { bits = 8; signed = true }
row UChar = record { bits = 8; signed = false }
row Short = record { bits = 16; signed = true }
row UShort = record { bits = 16; signed = false }
row Int = record { bits = 32; signed = true }
row UInt = record { bits = 32; signed = false }
row Long = record { bits = 64; signed = true }
row ULong = record { bits = 64; signed = false }
row kind.Bool = record { bits = 1; signed = false }

-- how many bits a type has
abbrev pub width : Kind → ℕ
width k = (row k).bits

-- how many bytes a value of a type takes: those that hold its bits
abbrev pub bytes : Kind → ℕ
bytes k = (width k + 7) / 8

-- whether a type holds negative numbers
abbrev pub is_signed : Kind → Bool
is_signed k = (row k).signed

-- whether two types are one
abbrev pub same_kind : Kind → Kind → Bool
same_kind Char Char = true
same_kind UChar UChar = true
same_kind Short Short = true
same_kind UShort UShort = true
same_kind Int Int = true
same_kind UInt UInt = true
same_kind Long Long = true
same_kind ULong ULong = true
same_kind kind.Bool kind.Bool = true
same_kind _ _ = false

-- TYPES OF OPERANDS

-- C17 6.3.1.1: the integer promotions: an int holds all values of a narrower type
abbrev pub promoted : Kind → Kind
promoted k = cond (nat_lt (width k) (width Int)) Int k

-- C17 6.3.1.8: the type of greater rank, which here has more bits, and of two of one rank the
-- unsigned one; a type of greater rank holds every value of an unsigned type of lower rank
abbrev pub larger : Kind → Kind → Kind
larger j k =
    cond (nat_lt (width j) (width k)) k
    (cond (nat_lt (width k) (width j)) j (cond (is_signed j) k j))

-- the usual arithmetic conversions
abbrev pub common : Kind → Kind → Kind
common j k = larger (promoted j) (promoted k)

-- WORDS

-- the number that a word stands for, by the sign of its type
abbrev pub number_by : Bool → ℕ → ℤ
number_by true w = cast_signed w64 w
number_by false w = pos w

-- the number that a word stands for at a type; a negative number stands modulo 2^64
abbrev pub number : Kind → ℕ → ℤ
number k w = number_by (is_signed k) w

-- the word of a number
abbrev pub word : ℤ → ℕ
word z = cast_unsigned w64 z

-- the word of a number, where there is one
abbrev pub word_of : Option ℤ → Option ℕ
word_of None = None
word_of (Some z) = Some (word z)

-- w is the word of a number that so many bits hold, with a sign or without
abbrev pub InBits : Bool → ℕ → ℕ → Type 0
InBits true n w = (w + 2 ^ (n - 1)) % 2 ^ 64 < 2 ^ n
InBits false n w = w < 2 ^ n

-- w is the word of a number that the type holds
pub record IsWord (k : Kind) (w : ℕ) : Type 0 where
  pub below : w < 2 ^ 64
  -- it is one of the type's numbers, modulo 2^64
  pub narrow : InBits (is_signed k) (width k) w

-- RESULTS

-- a number modulo m
abbrev pub reduced : ℕ → ℤ → ℕ
reduced m (pos n) = n % m
reduced m (negsuc n) = (m - 1) - n % m

-- a number from the least to the greatest, none elsewhere
abbrev pub between : ℤ → ℤ → ℤ → Option ℤ
between least greatest z = cond (int_le least z && int_le z greatest) (Some z) None

-- a result in so many bits: none where they do not hold it with its sign, modulo 2^n without one
abbrev pub in_bits : Bool → ℕ → ℤ → Option ℤ
in_bits true n z = between (negsuc (2 ^ (n - 1) - 1)) (pos (2 ^ (n - 1) - 1)) z
in_bits false n z = Some (pos (reduced (2 ^ n) z))

-- a result in its type (C17 6.2.5, 6.5)
abbrev pub in_kind : Kind → ℤ → Option ℤ
in_kind k z = in_bits (is_signed k) (width k) z

-- CONVERSIONS

-- the low bits of a word, of which the highest has the value half, read by sign
abbrev pub by_sign : ℕ → ℕ → ℕ
by_sign half low = cond (nat_lt low half) low (low + (2 ^ 64 - (half + half)))

-- the word of the low n bits of a word; all bits of one are its low 64
abbrev pub low_bits : Bool → ℕ → ℕ → ℕ
low_bits signed n w =
    cond (signed && nat_lt n 64) (by_sign (2 ^ (n - 1)) (w % 2 ^ n)) (w % 2 ^ n)

-- C17 6.3.1.2: what is not 0 becomes the `_Bool` 1
abbrev pub as_bool : ℕ → ℕ
as_bool w = cond (nat_eq w 0) 0 1

-- C17 6.3.1.3: a conversion to any other type keeps the low bits; the word of a number is the same at each
-- type that holds it
unfoldable pub converted : Kind → ℕ → ℕ
converted kind.Bool w = as_bool w
converted k w = low_bits (is_signed k) (width k) w
