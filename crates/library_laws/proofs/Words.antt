-- The operations of the printing functions on words: none of them overflows.
use Rattle.std.proofs.Common.{◌≡◌, ◌≢◌, ℕ, suc, ◌+◌, ◌-◌, ◌/◌, ◌%◌, ◌^◌, ◌<◌, ◌≤◌, ◌⊎◌, inl, inr, pos, negsuc, Bool, true, false, cond}
use Rattle.std.proofs.Common.{refl, Some, None, ap, ◌∙◌, arith, nat_eq}
use Rattle.std.specs.Prelude.{not, int_lt, int_le, ◌+ℤ◌, ◌-ℤ◌}
use Rattle.std.specs.Int.{w64}
use Rattle.std.proofs.lemmas.Int.{to_z_pos}
use Rattle.std.proofs.Math.Facts.{to_z-neg}
use Rattle.std.proofs.lemmas.Nat.{and_mask}
use Rattle.std.proofs.lemmas.Bool.Decides.{nat_tests}
use Rattle.std.proofs.lemmas.Grind.{common_steps}
use Rattle.c_tree.specs.declared.Kind.TheVariants.{Int, Long, ULong}
use Rattle.c_tree.specs.declared.UnaryOp.TheVariants.{Minus}
use Rattle.c_tree.specs.declared.BinaryOp.TheVariants.{Add, Less, GreaterEqual, Equal, NotEqual, BitAnd, ShiftRight}
use Rattle.c_tree.specs.declared.BinaryOp.TheVariants.{Subtract}
use Rattle.c_tree.specs.declared.BinaryOp.TheVariants.{Divide, Remainder}
use Rattle.c_constant.specs.Kinds.{number, word_of, in_kind, converted}
use Rattle.c_constant.specs.Operation.{operate, operate_one, answer, provided, is_zero}
use Rattle.c_constant.proofs.Conversions.{converted_is, order}

-- a word below 2^63 as an int is this number
pub int_is : (a : ℕ) → a < 2 ^ 63 → number Int a ≡ pos a
int_is a h = to_z_pos w64 a h

-- an int holds it
in_int : (a : ℕ) → a < 2 ^ 31 → in_kind Int (pos a) ≡ Some (pos a)
in_int a h = grind (arith, common_steps)

-- a sum of ints below 2^31 is the sum of the words
pub add_int : (a b : ℕ) → a + b < 2 ^ 31 → operate Add Int a b ≡ Some (a + b)
unfolding operate
add_int a b h =
    ap (λ z. word_of (in_kind Int (z +ℤ number Int b))) (int_is a (omega arith))
    ∙ ap (λ z. word_of (in_kind Int (pos a +ℤ z))) (int_is b (omega arith))
    ∙ ap word_of (in_int (a + b) h)

-- a word below 2^31 is converted to itself
pub to_int : (a : ℕ) → a < 2 ^ 31 → converted Int a ≡ a
to_int a h = converted_is Int a (record { below = omega arith; narrow = omega arith })

-- one unsigned long is less than another
pub less : (a b : ℕ) → a < b → operate Less ULong a b ≡ Some 1
unfolding operate
less a b h =
    let e : int_lt (pos a) (pos b) ≡ true = grind (arith, nat_tests) in
    ap (λ (x : Bool). word_of (answer x)) e

-- or is not
pub not_less : (a b : ℕ) → b ≤ a → operate Less ULong a b ≡ Some 0
unfolding operate
not_less a b h =
    let e : int_lt (pos a) (pos b) ≡ false = grind (arith, nat_tests) in
    ap (λ (x : Bool). word_of (answer x)) e

-- a quotient of unsigned longs
pub divide : (a b : ℕ) → 0 < b → a / b < 2 ^ 64 → operate Divide ULong a b ≡ Some (a / b)
unfolding operate
divide a b h q =
    let e : nat_eq b 0 ≡ false = grind (arith, nat_tests) in
    ap (λ (x : Bool). word_of (cond x None (in_kind ULong (pos (a / b))))) e ∙ ap (λ (n : ℕ). Some n) (omega arith)

-- and its remainder
pub modulo : (a b : ℕ) → 0 < b → operate Remainder ULong a b ≡ Some (a % b)
unfolding operate
modulo a b h =
    let e : nat_eq b 0 ≡ false = grind (arith, nat_tests) in
    ap (λ (x : Bool). word_of (provided (cond x None (in_kind ULong (pos (a / b)))) (pos (a % b)))) e

-- a sum of unsigned longs below 2^64
pub add : (a b : ℕ) → a + b < 2 ^ 64 → operate Add ULong a b ≡ Some (a + b)
unfolding operate
add a b h = ap (λ (n : ℕ). Some n) (omega arith)

-- LONGS

-- a word below 2^63 is this long
pub long_is : (a : ℕ) → a < 2 ^ 63 → number Long a ≡ pos a
long_is a h = to_z_pos w64 a h

-- any other is negative
pub long_below : (a m : ℕ) → 2 ^ 63 ≤ a → a + suc m ≡ 2 ^ 64 → number Long a ≡ negsuc m
long_below a m h e =
    let is : a ≡ 2 ^ 64 - suc m = omega arith in
    ap (λ (w : ℕ). number Long w) is ∙ to_z-neg w64 m (omega arith)

-- no long that is not negative is below 0
pub has_no_sign : (a : ℕ) → a < 2 ^ 63 → operate GreaterEqual Long a 0 ≡ Some 1
unfolding operate
has_no_sign a h =
    let e : int_le (pos 0) (pos a) ≡ true = grind (arith, nat_tests) in
    ap (λ z. word_of (answer (int_le (number Long 0) z))) (long_is a h) ∙ ap (λ (x : Bool). word_of (answer x)) e

-- each negative one is
pub has_sign : (a m : ℕ) → 2 ^ 63 ≤ a → a + suc m ≡ 2 ^ 64 → operate GreaterEqual Long a 0 ≡ Some 0
unfolding operate
has_sign a m h e = ap (λ z. word_of (answer (int_le (number Long 0) z))) (long_below a m h e)

-- the negation of an unsigned long that is not 0
pub minus : (a m : ℕ) → 2 ^ 63 ≤ a → a + suc m ≡ 2 ^ 64 → operate_one Minus ULong a ≡ Some (suc m)
unfolding operate_one
minus a m h e = go (a - 1) (omega arith)
  where
    go : (b : ℕ) → a ≡ suc b → operate_one Minus ULong a ≡ Some (suc m)
    go b is =
        let f : pos 0 -ℤ pos (suc b) ≡ negsuc b = grind (arith, common_steps, nat_tests) in
        ap (λ (w : ℕ). operate_one Minus ULong w) is ∙ ap (λ z. word_of (in_kind ULong z)) f
        ∙ ap (λ (n : ℕ). Some n) (omega arith)

-- MORE OF INTS AND OF UNSIGNED LONGS

-- one int is less than another
pub less_int : (a b : ℕ) → a < b → b < 2 ^ 31 → operate Less Int a b ≡ Some 1
unfolding operate
less_int a b h few =
    let e : int_lt (pos a) (pos b) ≡ true = grind (arith, nat_tests) in
    ap (λ z. word_of (answer (int_lt z (number Int b)))) (int_is a (omega arith))
    ∙ ap (λ z. word_of (answer (int_lt (pos a) z))) (int_is b (omega arith))
    ∙ ap (λ (x : Bool). word_of (answer x)) e

-- or is not
pub not_less_int : (a b : ℕ) → b ≤ a → a < 2 ^ 31 → operate Less Int a b ≡ Some 0
unfolding operate
not_less_int a b h few =
    let e : int_lt (pos a) (pos b) ≡ false = grind (arith, nat_tests) in
    ap (λ z. word_of (answer (int_lt z (number Int b)))) (int_is a (omega arith))
    ∙ ap (λ z. word_of (answer (int_lt (pos a) z))) (int_is b (omega arith))
    ∙ ap (λ (x : Bool). word_of (answer x)) e

-- 0 is equal to 0
pub is_none : operate Equal ULong 0 0 ≡ Some 1
unfolding operate
is_none = refl

-- and no other number is
pub is_some : (a : ℕ) → 0 < a → operate Equal ULong a 0 ≡ Some 0
unfolding operate
is_some a h =
    let e : is_zero (pos a -ℤ pos 0) ≡ false = grind (arith, common_steps, nat_tests) in
    ap (λ (x : Bool). word_of (answer x)) e

-- four bits to the right are a quotient by 16
pub shift : (a : ℕ) → operate ShiftRight ULong a 4 ≡ Some (a / 16)
unfolding operate
shift a = refl

-- the low four bits are a remainder by 16
pub low : (a : ℕ) → operate BitAnd ULong a 15 ≡ Some (a % 16)
unfolding operate
low a = ap (λ (n : ℕ). Some n) (and_mask a 4)

-- the letter `a` minus 10
pub letter : operate Subtract Int 97 10 ≡ Some 87
unfolding operate
letter = refl

-- 0 is no other number than 0
pub is_end : operate NotEqual ULong 0 0 ≡ Some 0
unfolding operate
is_end = refl

-- every other is
pub is_more : (a : ℕ) → 0 < a → operate NotEqual ULong a 0 ≡ Some 1
unfolding operate
is_more a h =
    let e : is_zero (pos a -ℤ pos 0) ≡ false = grind (arith, common_steps, nat_tests) in
    ap (λ (x : Bool). word_of (answer (not x))) e

-- a word from 2^63 on is a negative int
pub int_below : (a m : ℕ) → 2 ^ 63 ≤ a → a + suc m ≡ 2 ^ 64 → number Int a ≡ negsuc m
int_below a m h e =
    let is : a ≡ 2 ^ 64 - suc m = omega arith in
    ap (λ (w : ℕ). number Int w) is ∙ to_z-neg w64 m (omega arith)

-- 0 is not less than it
pub not_below : (a m : ℕ) → 2 ^ 63 ≤ a → a + suc m ≡ 2 ^ 64 → operate Less Int 0 a ≡ Some 0
unfolding operate
not_below a m h e = ap (λ z. word_of (answer (int_lt (number Int 0) z))) (int_below a m h e)

-- DIFFERENCES

-- `-` is equal to itself
pub is_minus : operate Equal Int 45 45 ≡ Some 1
unfolding operate
is_minus = refl

-- numbers that are not equal have a difference
differ : (a b : ℕ) → a ≢ b → is_zero (pos a -ℤ pos b) ≡ false
differ a b n = go (order a b) (order b a)
  where
    go : (a < b) ⊎ (b ≤ a) → (b < a) ⊎ (a ≤ b) → is_zero (pos a -ℤ pos b) ≡ false
    go (inl l) o = grind (arith, common_steps, nat_tests)
    go (inr m) (inl l) = grind (arith, common_steps, nat_tests)
    go (inr m) (inr l) = absurd (n (omega arith))

-- and two ints are not equal then
pub other_int : (a b : ℕ) → a ≢ b → a < 2 ^ 31 → b < 2 ^ 31 → operate Equal Int a b ≡ Some 0
unfolding operate
other_int a b n h k =
    ap (λ z. word_of (answer (is_zero (z -ℤ number Int b)))) (int_is a (omega arith))
    ∙ ap (λ z. word_of (answer (is_zero (pos a -ℤ z)))) (int_is b (omega arith))
    ∙ ap (λ (x : Bool). word_of (answer x)) (differ a b n)

-- one less than an int
pub less_one : (a : ℕ) → suc a < 2 ^ 31 → operate Subtract Int (suc a) 1 ≡ Some a
unfolding operate
less_one a h =
    let e : pos (suc a) -ℤ pos 1 ≡ pos a = grind (arith, common_steps, nat_tests) in
    ap (λ z. word_of (in_kind Int (z -ℤ number Int 1))) (int_is (suc a) (omega arith))
    ∙ ap (λ z. word_of (in_kind Int z)) e
    ∙ ap word_of (in_int a (omega arith))

-- and than 0
pub below_zero : operate Subtract Int 0 1 ≡ Some 18446744073709551615
unfolding operate
below_zero = refl
