-- Words of a type, and what a conversion does with them.
use Rattle.std.proofs.Common.{◌≡◌, ℕ, ◌+◌, ◌-◌, ◌%◌, ◌^◌, ◌<◌, ◌≤◌, ◌⊎◌, inl, inr, Bool, true}
use Rattle.std.proofs.Common.{false, cond, refl, ap, ◌∙◌, arith}
use Rattle.std.specs.Prelude.{nat_lt}
use Rattle.std.specs.Int.{w64, cast_signed}
use Rattle.std.proofs.lemmas.Int.{of_z-to_z}
use Rattle.std.proofs.lemmas.Bool.Decides.{nat_tests}
use Rattle.c_tree.specs.declared.Kind.{Kind}
use Rattle.c_tree.specs.declared.Kind.TheVariants.{Char, UChar, Short, UShort, Int, UInt, Long}
use Rattle.c_tree.specs.declared.Kind.TheVariants.{ULong}
use Rattle.c_tree.specs.declared.Kind.TheVariants as kind
use Rattle.c_constant.specs.Kinds.{number, word, IsWord, by_sign, as_bool, converted}

-- a word is that of the number that it is read as
pub word_signed : (a : ℕ) → a < 2 ^ 64 → word (cast_signed w64 a) ≡ a
word_signed a h = of_z-to_z w64 a h

-- the same at each type
pub word_number : (k : Kind) (a : ℕ) → a < 2 ^ 64 → word (number k a) ≡ a
word_number Char a h = word_signed a h
word_number UChar a h = refl
word_number Short a h = word_signed a h
word_number UShort a h = refl
word_number Int a h = word_signed a h
word_number UInt a h = refl
word_number Long a h = word_signed a h
word_number ULong a h = refl
word_number kind.Bool a h = refl

-- one of two numbers is less, or the other is no more
pub order : (a b : ℕ) → (a < b) ⊎ (b ≤ a)
order a b = go (nat_lt a b) refl
  where
    go : (x : Bool) → nat_lt a b ≡ x → (a < b) ⊎ (b ≤ a)
    go true e = inl (grind (arith, nat_tests))
    go false e = inr (grind (arith, nat_tests))

-- low bits whose highest is 0 stay
pub by_sign_low : (half low : ℕ) → low < half → by_sign half low ≡ low
by_sign_low half low h =
    let e : nat_lt low half ≡ true = grind (arith, nat_tests) in
    ap (λ b. cond b low (low + (2 ^ 64 - (half + half)))) e

-- those whose highest is 1 are preceded by ones
pub by_sign_high : (half low : ℕ) → half ≤ low → by_sign half low ≡ low + (2 ^ 64 - (half + half))
by_sign_high half low h =
    let e : nat_lt low half ≡ false = grind (arith, nat_tests) in
    ap (λ b. cond b low (low + (2 ^ 64 - (half + half)))) e

-- a `_Bool` is 0 or 1
pub bool_below : (w : ℕ) → as_bool w < 2
bool_below w = grind (arith, nat_tests)

-- and stays as it is
pub bool_stays : (w : ℕ) → w < 2 → as_bool w ≡ w
bool_stays w h = grind (arith, nat_tests)

-- a word of a type is converted to itself
pub converted_is : (k : Kind) (w : ℕ) → IsWord k w → converted k w ≡ w
unfolding converted
converted_is Char w h = go (order (w % 256) 128)
  where
    go : ((w % 256 < 128) ⊎ (128 ≤ w % 256)) → by_sign 128 (w % 256) ≡ w
    go (inl l) =
        let a = h.below in
        let b : (w + 128) % 2 ^ 64 < 256 = h.narrow in
        by_sign_low 128 (w % 256) l ∙ omega arith
    go (inr l) =
        let a = h.below in
        let b : (w + 128) % 2 ^ 64 < 256 = h.narrow in
        by_sign_high 128 (w % 256) l ∙ omega arith
converted_is UChar w h = let b : w < 256 = h.narrow in omega arith
converted_is Short w h = go (order (w % 65536) 32768)
  where
    go : ((w % 65536 < 32768) ⊎ (32768 ≤ w % 65536)) → by_sign 32768 (w % 65536) ≡ w
    go (inl l) =
        let a = h.below in
        let b : (w + 32768) % 2 ^ 64 < 65536 = h.narrow in
        by_sign_low 32768 (w % 65536) l ∙ omega arith
    go (inr l) =
        let a = h.below in
        let b : (w + 32768) % 2 ^ 64 < 65536 = h.narrow in
        by_sign_high 32768 (w % 65536) l ∙ omega arith
converted_is UShort w h = let b : w < 65536 = h.narrow in omega arith
converted_is Int w h = go (order (w % 4294967296) 2147483648)
  where
    go : ((w % 4294967296 < 2147483648) ⊎ (2147483648 ≤ w % 4294967296))
        → by_sign 2147483648 (w % 4294967296) ≡ w
    go (inl l) =
        let a = h.below in
        let b : (w + 2147483648) % 2 ^ 64 < 4294967296 = h.narrow in
        by_sign_low 2147483648 (w % 4294967296) l ∙ omega arith
    go (inr l) =
        let a = h.below in
        let b : (w + 2147483648) % 2 ^ 64 < 4294967296 = h.narrow in
        by_sign_high 2147483648 (w % 4294967296) l ∙ omega arith
converted_is UInt w h = let b : w < 4294967296 = h.narrow in omega arith
converted_is Long w h = let a = h.below in omega arith
converted_is ULong w h = let a = h.below in omega arith
converted_is kind.Bool w h = let b : w < 2 = h.narrow in bool_stays w b

-- a conversion gives a word of the type
pub converted_word : (k : Kind) (w : ℕ) → IsWord k (converted k w)
unfolding converted
converted_word Char w = go (order (w % 256) 128)
  where
    go : ((w % 256 < 128) ⊎ (128 ≤ w % 256)) → IsWord Char (by_sign 128 (w % 256))
    go (inl l) =
        let e = by_sign_low 128 (w % 256) l in record { below = omega arith; narrow = omega arith }
    go (inr l) =
        let e = by_sign_high 128 (w % 256) l in record { below = omega arith; narrow = omega arith }
converted_word UChar w = record { below = omega arith; narrow = omega arith }
converted_word Short w = go (order (w % 65536) 32768)
  where
    go : ((w % 65536 < 32768) ⊎ (32768 ≤ w % 65536)) → IsWord Short (by_sign 32768 (w % 65536))
    go (inl l) =
        let e = by_sign_low 32768 (w % 65536) l in record { below = omega arith; narrow = omega arith }
    go (inr l) =
        let e = by_sign_high 32768 (w % 65536) l in record { below = omega arith; narrow = omega arith }
converted_word UShort w = record { below = omega arith; narrow = omega arith }
converted_word Int w = go (order (w % 4294967296) 2147483648)
  where
    go : ((w % 4294967296 < 2147483648) ⊎ (2147483648 ≤ w % 4294967296))
        → IsWord Int (by_sign 2147483648 (w % 4294967296))
    go (inl l) =
        let e = by_sign_low 2147483648 (w % 4294967296) l in
        record { below = omega arith; narrow = omega arith }
    go (inr l) =
        let e = by_sign_high 2147483648 (w % 4294967296) l in
        record { below = omega arith; narrow = omega arith }
converted_word UInt w = record { below = omega arith; narrow = omega arith }
converted_word Long w = record { below = omega arith; narrow = omega arith }
converted_word ULong w = record { below = omega arith; narrow = omega arith }
converted_word kind.Bool w = let b = bool_below w in record { below = omega arith; narrow = b }

-- so that it gives a word
pub converted_below : (k : Kind) (w : ℕ) → converted k w < 2 ^ 64
converted_below k w = (converted_word k w).below

-- a word is converted to a type of 64 bits as it is
pub converted_long : (w : ℕ) → w < 2 ^ 64 → converted Long w ≡ w
unfolding converted
converted_long w h = omega arith

-- a word converted to an unsigned long stays as it is
pub converted_ulong : (w : ℕ) → w < 2 ^ 64 → converted ULong w ≡ w
unfolding converted
converted_ulong w h = omega arith
