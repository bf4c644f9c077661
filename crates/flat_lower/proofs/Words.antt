-- C's operations on words are the machine's: where an operation is defined, these operations give
-- the word of its result.
use Rattle.std.proofs.Common.{◌≡◌, ◌≢◌, ℕ, zero, suc, ◌+◌, ◌-◌, ◌*◌, ◌/◌, ◌%◌, ◌^◌, ◌<◌, ◌≤◌, ◌⊎◌}
use Rattle.std.proofs.Common.{inl, inr, ℤ, pos, negsuc, Bool, true, false, cond, Option, Some, None}
use Rattle.std.proofs.Common.{refl, sym, ap, ap₂, ◌∙◌, subst, arith}
use Rattle.std.specs.Prelude.{◌+ℤ◌, ◌-ℤ◌, ◌*ℤ◌, not, ◌&&◌, int_div, int_rem, int_lt, int_le, nat_eq}
use Rattle.std.specs.Prelude.{nat_lt, nat_le, FitsSigned}
use Rattle.std.specs.Int.{w64, cast_signed, cast_unsigned, int_wrap, int_shr}
use Rattle.std.proofs.lemmas.Int.{ints, of_z-to_z, int_wrap_fits, wrapping_add-bits}
use Rattle.std.proofs.lemmas.Int.{wrapping_sub-bits, wrapping_mul-bits}
use Rattle.std.proofs.lemmas.Bool.Decides.{nat_tests}
use Rattle.c_tree.specs.declared.Kind.{Kind}
use Rattle.c_tree.specs.declared.Kind.TheVariants.{Char, UChar, Short, UShort, Int, UInt, Long, ULong}
use Rattle.c_constant.specs.Kinds.{number, word, word_of, reduced, between, in_kind, by_sign}
use Rattle.c_constant.specs.Kinds.{converted}
use Rattle.trips_isa.specs.Alu.{extended}
use Rattle.c_constant.specs.Kinds.{IsWord}
use Rattle.flat_lower.specs.inside.Kinds.{IsArithmetic}

-- NUMBERS AND WORDS

-- the word of a number that a long holds, from a word that wraps to it
wraps_to : (n : ℕ) (z : ℤ) → n < 2 ^ 64 → FitsSigned w64 z → cast_signed w64 n ≡ int_wrap w64 z
    → n ≡ word z
wraps_to n z lt f e = sym (of_z-to_z w64 n lt) ∙ ap (cast_unsigned w64) (e ∙ int_wrap_fits w64 z f)

-- a sum by sign that fits is the machine's sum
pub add_word : (a b : ℕ) → a < 2 ^ 64 → b < 2 ^ 64
    → FitsSigned w64 (cast_signed w64 a +ℤ cast_signed w64 b)
    → (a + b) % 2 ^ 64 ≡ word (cast_signed w64 a +ℤ cast_signed w64 b)
add_word a b p q f = wraps_to ((a + b) % 2 ^ 64) _ (omega arith) f (wrapping_add-bits w64 a b p q)

-- a difference by sign that fits is the machine's difference
pub sub_word : (a b : ℕ) → a < 2 ^ 64 → b < 2 ^ 64
    → FitsSigned w64 (cast_signed w64 a -ℤ cast_signed w64 b)
    → (a + (2 ^ 64 - b)) % 2 ^ 64 ≡ word (cast_signed w64 a -ℤ cast_signed w64 b)
sub_word a b p q f = wraps_to ((a + (2 ^ 64 - b)) % 2 ^ 64) _ (omega arith) f
    (wrapping_sub-bits w64 a b p q)

-- a product by sign that fits is the machine's product
pub mul_word : (a b : ℕ) → a < 2 ^ 64 → b < 2 ^ 64
    → FitsSigned w64 (cast_signed w64 a *ℤ cast_signed w64 b)
    → (a * b) % 2 ^ 64 ≡ word (cast_signed w64 a *ℤ cast_signed w64 b)
mul_word a b p q f = wraps_to ((a * b) % 2 ^ 64) _ (omega arith) f (wrapping_mul-bits w64 a b p q)

-- the word of what is there
pub word_of_is : (o : Option ℤ) (w : ℕ) → word_of o ≡ Some w → (z : ℤ) × (o ≡ Some z) × (word z ≡ w)
word_of_is None w h = absurd (cc h)
word_of_is (Some z) w h = (z, refl, cc)

-- RANGES

-- what lies between two numbers
pub record Lies (least greatest z r : ℤ) : Type 0 where
  pub is : z ≡ r
  pub above : int_le least z ≡ true
  pub below : int_le z greatest ≡ true

-- a number that is found between two bounds lies there
pub between_is : (least greatest z r : ℤ) → between least greatest z ≡ Some r
    → Lies least greatest z r
between_is least greatest z r h = go (int_le least z) refl (int_le z greatest) refl h
  where
    go : (x : Bool) → int_le least z ≡ x → (y : Bool) → int_le z greatest ≡ y
        → cond (x && y) (Some z) None ≡ Some r → Lies least greatest z r
    go true e true f h = record { is = cc; above = e; below = f }
    go true e false f h = absurd (cc h)
    go false e true f h = absurd (cc h)
    go false e false f h = absurd (cc h)

pub fits_char : (z r : ℤ) → Lies (negsuc 127) (pos 127) z r → FitsSigned w64 z
fits_char z r l = let a = l.above in let b = l.below in omega (arith, ints)

-- a number in the range of int fits 64 bits
pub fits_int : (z r : ℤ) → Lies (negsuc 2147483647) (pos 2147483647) z r → FitsSigned w64 z
fits_int z r l = let a = l.above in let b = l.below in omega (arith, ints)

-- a number in the range of long fits 64 bits
pub fits_long : (z r : ℤ) → Lies (negsuc 9223372036854775807) (pos 9223372036854775807) z r
    → FitsSigned w64 z
fits_long z r l = let a = l.above in let b = l.below in omega (arith, ints)

-- the word of a number of an int's range is one of an int
pub narrow_int : (z r : ℤ) → Lies (negsuc 2147483647) (pos 2147483647) z r → IsWord Int (word z)
narrow_int (pos n) r l =
    let a = l.above in let b = l.below in let h : n < 2147483648 = omega (arith, ints) in
    record { below = omega arith; narrow = omega arith }
narrow_int (negsuc n) r l =
    let a = l.above in let b = l.below in let h : n < 2147483648 = omega (arith, ints) in
    record { below = omega (arith, ints); narrow = omega (arith, ints) }

-- CONVERSIONS

-- the machine's extensions are C's conversions
pub extended_char : (w : ℕ) → extended 8 w ≡ converted Char w
unfolding converted
extended_char w = refl

pub extended_int : (w : ℕ) → extended 32 w ≡ converted Int w
unfolding converted
extended_int w = refl
