-- Each operator at each type: the words that the machine's operations give.
use Rattle.std.proofs.Common.{◌≡◌, ℕ, ◌+◌, ◌-◌, ◌*◌, ◌%◌, ◌^◌, ◌<◌, ◌≤◌}
use Rattle.std.proofs.Common.{ℤ, pos, negsuc, Bool, true, false, cond, Some}
use Rattle.std.proofs.Common.{refl, sym, ap, ◌∙◌, subst, arith}
use Rattle.std.specs.Prelude.{◌-ℤ◌, not, int_lt, int_le, nat_eq}
use Rattle.std.specs.Prelude.{nat_lt, nat_le}
use Rattle.std.proofs.lemmas.Int.{ints}
use Rattle.std.proofs.lemmas.Bool.Decides.{nat_tests}
use Rattle.c_tree.specs.declared.Kind.{Kind}
use Rattle.c_tree.specs.declared.Kind.TheVariants.{Char, UChar, Short, UShort, Int, UInt, Long, ULong}
use Rattle.c_tree.specs.declared.Kind.TheVariants as kind
use Rattle.c_tree.specs.declared.BinaryOp.TheVariants.{Equal, NotEqual, Less, Greater, LessEqual}
use Rattle.c_tree.specs.declared.BinaryOp.TheVariants.{GreaterEqual, Add}
use Rattle.c_tree.specs.declared.BinaryOp.TheVariants.{Subtract, Multiply}
use Rattle.c_constant.specs.Kinds.{number, word, word_of, reduced}
use Rattle.c_constant.specs.Operation.{answer, is_zero}
use Rattle.c_constant.specs.Operation.{operate}
use Rattle.trips_isa.specs.Alu.{test}
use Rattle.trips_isa.specs.Alu as alu
use Rattle.c_constant.specs.Kinds.{IsWord}
use Rattle.flat_lower.specs.inside.Kinds.{IsArithmetic}
use Rattle.c_constant.proofs.Conversions.{word_number}
use Rattle.flat_lower.proofs.Words.{add_word, sub_word, mul_word}
use Rattle.flat_lower.proofs.Words.{word_of_is, between_is, fits_int, fits_long, narrow_int}

-- an unsigned int is reduced
abbrev pub reduced_word : Kind → ℕ → ℕ
reduced_word UInt x = x % 2 ^ 32
reduced_word k x = x

-- a word of the machine is the word of a result, which is one of its type
pub record Gives (k : Kind) (x w : ℕ) : Type 0 where
  pub is : x ≡ w
  pub fits : IsWord k w

-- SUMS

module _ (a b w : ℕ) (p : a < 2 ^ 64) (q : b < 2 ^ 64) where
  -- the word of a sum is the machine's sum, at the kind
  pub add_gives : (k : Kind) → IsArithmetic k → operate Add k a b ≡ Some w
      → Gives k (reduced_word k ((a + b) % 2 ^ 64)) w
  unfolding operate
  add_gives Char t h = absurd t
  add_gives UChar t h = absurd t
  add_gives Short t h = absurd t
  add_gives UShort t h = absurd t
  add_gives Int t h =
      let x = word_of_is _ w h in
      let l = between_is _ _ _ _ x.1 in
      let e : (a + b) % 2 ^ 64 ≡ w = add_word a b p q (fits_int _ _ l) ∙ ap word l.is ∙ x.2 in
      record { is = e; fits = subst (IsWord Int) (ap word l.is ∙ x.2) (narrow_int _ _ l) }
  add_gives UInt t h =
      let e : (a + b) % 4294967296 ≡ w = cc in
      record { is = omega arith; fits = record { below = omega arith; narrow = omega arith } }
  add_gives Long t h =
      let x = word_of_is _ w h in
      let l = between_is _ _ _ _ x.1 in
      let e : (a + b) % 2 ^ 64 ≡ w = add_word a b p q (fits_long _ _ l) ∙ ap word l.is ∙ x.2 in
      record { is = e; fits = record { below = omega arith; narrow = omega arith } }
  add_gives ULong t h =
      let e : (a + b) % 18446744073709551616 ≡ w = cc in
      record { is = e; fits = record { below = omega arith; narrow = omega arith } }
  add_gives kind.Bool t h = absurd t

  less : (m : ℕ) → reduced m (pos a -ℤ pos b)
      ≡ cond (nat_lt a b) ((m - 1) - (b - a - 1) % m) ((a - b) % m)
  less m = go (nat_lt a b) refl
    where
      go : (x : Bool) → nat_lt a b ≡ x → reduced m (pos a -ℤ pos b)
          ≡ cond x ((m - 1) - (b - a - 1) % m) ((a - b) % m)
      go true e =
          let lt : a < b = grind (arith, nat_tests) in
          let z : pos a -ℤ pos b ≡ negsuc (b - a - 1) = omega (arith, ints) in ap (reduced m) z
      go false e =
          let le : b ≤ a = grind (arith, nat_tests) in let z : pos a -ℤ pos b ≡ pos (a - b) = omega (arith, ints) in
          ap (reduced m) z

  -- a difference as an unsigned int is the machine's difference in 32 bits
  pub less_uint : reduced 4294967296 (pos a -ℤ pos b) ≡ ((a + (2 ^ 64 - b)) % 2 ^ 64) % 2 ^ 32
  less_uint = less 4294967296 ∙ go (nat_lt a b) refl
    where
      go : (x : Bool) → nat_lt a b ≡ x → cond x ((4294967296 - 1) - (b - a - 1) % 4294967296)
          ((a - b) % 4294967296) ≡ ((a + (2 ^ 64 - b)) % 2 ^ 64) % 2 ^ 32
      go true e = let lt : a < b = grind (arith, nat_tests) in omega arith
      go false e = let le : b ≤ a = grind (arith, nat_tests) in omega arith

  -- a difference as an unsigned long is the machine's difference
  pub less_ulong : reduced 18446744073709551616 (pos a -ℤ pos b) ≡ (a + (2 ^ 64 - b)) % 2 ^ 64
  less_ulong = less 18446744073709551616 ∙ go (nat_lt a b) refl
    where
      go : (x : Bool) → nat_lt a b ≡ x → cond x
          ((18446744073709551616 - 1) - (b - a - 1) % 18446744073709551616)
          ((a - b) % 18446744073709551616) ≡ (a + (2 ^ 64 - b)) % 2 ^ 64
      go true e = let lt : a < b = grind (arith, nat_tests) in omega arith
      go false e = let le : b ≤ a = grind (arith, nat_tests) in omega arith

  -- the word of a difference is the machine's difference, at the kind
  pub sub_gives : (k : Kind) → IsArithmetic k → operate Subtract k a b ≡ Some w
      → Gives k (reduced_word k ((a + (2 ^ 64 - b)) % 2 ^ 64)) w
  unfolding operate
  sub_gives Char t h = absurd t
  sub_gives UChar t h = absurd t
  sub_gives Short t h = absurd t
  sub_gives UShort t h = absurd t
  sub_gives Int t h =
      let x = word_of_is _ w h in
      let l = between_is _ _ _ _ x.1 in
      let e : (a + (2 ^ 64 - b)) % 2 ^ 64 ≡ w = sub_word a b p q (fits_int _ _ l) ∙ ap word l.is ∙ x.2 in
      record { is = e; fits = subst (IsWord Int) (ap word l.is ∙ x.2) (narrow_int _ _ l) }
  sub_gives UInt t h =
      let e : reduced 4294967296 (pos a -ℤ pos b) ≡ w = cc in
      let f = less_uint in
      record { is = sym f ∙ e; fits = record { below = omega arith; narrow = omega arith } }
  sub_gives Long t h =
      let x = word_of_is _ w h in
      let l = between_is _ _ _ _ x.1 in
      let e : (a + (2 ^ 64 - b)) % 2 ^ 64 ≡ w = sub_word a b p q (fits_long _ _ l) ∙ ap word l.is ∙ x.2 in
      record { is = e; fits = record { below = omega arith; narrow = omega arith } }
  sub_gives ULong t h =
      let e : reduced 18446744073709551616 (pos a -ℤ pos b) ≡ w = cc in
      let f = less_ulong in
      record { is = sym f ∙ e; fits = record { below = omega arith; narrow = omega arith } }
  sub_gives kind.Bool t h = absurd t

  -- the word of a product is the machine's product, at the kind
  pub mul_gives : (k : Kind) → IsArithmetic k → operate Multiply k a b ≡ Some w
      → Gives k (reduced_word k ((a * b) % 2 ^ 64)) w
  unfolding operate
  mul_gives Char t h = absurd t
  mul_gives UChar t h = absurd t
  mul_gives Short t h = absurd t
  mul_gives UShort t h = absurd t
  mul_gives Int t h =
      let x = word_of_is _ w h in
      let l = between_is _ _ _ _ x.1 in
      let e : (a * b) % 2 ^ 64 ≡ w = mul_word a b p q (fits_int _ _ l) ∙ ap word l.is ∙ x.2 in
      record { is = e; fits = subst (IsWord Int) (ap word l.is ∙ x.2) (narrow_int _ _ l) }
  mul_gives UInt t h =
      let e : (a * b) % 4294967296 ≡ w = cc in
      record { is = omega arith; fits = record { below = omega arith; narrow = omega arith } }
  mul_gives Long t h =
      let x = word_of_is _ w h in
      let l = between_is _ _ _ _ x.1 in
      let e : (a * b) % 2 ^ 64 ≡ w = mul_word a b p q (fits_long _ _ l) ∙ ap word l.is ∙ x.2 in
      record { is = e; fits = record { below = omega arith; narrow = omega arith } }
  mul_gives ULong t h =
      let e : (a * b) % 18446744073709551616 ≡ w = cc in
      record { is = e; fits = record { below = omega arith; narrow = omega arith } }
  mul_gives kind.Bool t h = absurd t

-- TESTS

-- a test's answer is a word of an int
pub test_fits : (b : Bool) → IsWord Int (test b)
test_fits true = record { below = omega arith; narrow = omega arith }
test_fits false = record { below = omega arith; narrow = omega arith }

-- the word of a comparison's answer is the machine's test, as an int
pub answered : (b : Bool) (w : ℕ) → word_of (answer b) ≡ Some w → Gives Int (test b) w
answered true w h = let e : 1 ≡ w = cc in record { is = e; fits = subst (IsWord Int) e (test_fits true) }
answered false w h = let e : 0 ≡ w = cc in record { is = e; fits = subst (IsWord Int) e (test_fits false) }

-- whether two numbers are the same is told by their words
zero_tells : (x y : ℤ) → (x ≡ y → is_zero (x -ℤ y) ≡ true) × (is_zero (x -ℤ y) ≡ true → x ≡ y)
zero_tells x y = (
  λ e. subst (λ y. is_zero (x -ℤ y) ≡ true) e (zero_is (x -ℤ x) (omega (arith, ints))),
  λ h. let z = is_zero_is (x -ℤ y) h in omega (arith, ints),
)
  where
    zero_is : (z : ℤ) → z ≡ pos 0 → is_zero z ≡ true
    zero_is z e = ap is_zero e

    is_zero_is : (z : ℤ) → is_zero z ≡ true → z ≡ pos 0
    is_zero_is (pos n) h = let e : n ≡ 0 = grind (arith, nat_tests) in ap pos e
    is_zero_is (negsuc n) h = absurd (cc h)

module _ (a b : ℕ) (p : a < 2 ^ 64) (q : b < 2 ^ 64) where
  pub equal_is : (k : Kind) → is_zero (number k a -ℤ number k b) ≡ nat_eq a b
  equal_is k = go (nat_eq a b) refl (is_zero (number k a -ℤ number k b)) refl
    where
      go : (x : Bool) → nat_eq a b ≡ x → (y : Bool) → is_zero (number k a -ℤ number k b) ≡ y → y ≡ x
      go true e true f = refl
      go false e false f = refl
      go true e false f =
          let same : a ≡ b = grind (arith, nat_tests) in
          sym f ∙ (zero_tells (number k a) (number k b)).0 (ap (number k) same)
      go false e true f =
          let same : a ≡ b = sym (word_number k a p) ∙ ap word ((zero_tells (number k a) (number k b)).1 f)
          ∙ word_number k b q in
          let t : nat_eq a b ≡ true = grind (arith, nat_tests) in
          sym t ∙ e

  -- a test of equal words, and of others
  pub equal_gives : (k : Kind) (w : ℕ) → operate Equal k a b ≡ Some w
      → Gives Int (test (nat_eq a b)) w
  unfolding operate
  equal_gives k w h = answered (nat_eq a b) w (ap (λ x. word_of (answer x)) (sym (equal_is k)) ∙ h)

  -- the word of `!=` is that of the machine's test
  pub not_equal_gives : (k : Kind) (w : ℕ) → operate NotEqual k a b ≡ Some w
      → Gives Int (test (cond (nat_eq a b) false true)) w
  unfolding operate
  not_equal_gives k w h =
      answered (cond (nat_eq a b) false true) w
      (ap (λ x. word_of (answer x)) (flipped (nat_eq a b))
      ∙ ap (λ x. word_of (answer (not x))) (sym (equal_is k)) ∙ h)
    where
      flipped : (x : Bool) → cond x false true ≡ not x
      flipped true = refl
      flipped false = refl

-- comparisons are those of the numbers that the words are read as
abbrev pub compared : Kind → (ℤ → ℤ → Bool) → (ℕ → ℕ → Bool) → ℕ → ℕ → Bool
compared Char f g a b = f (alu.signed a) (alu.signed b)
compared UChar f g a b = g a b
compared Short f g a b = f (alu.signed a) (alu.signed b)
compared UShort f g a b = g a b
compared Int f g a b = f (alu.signed a) (alu.signed b)
compared UInt f g a b = g a b
compared Long f g a b = f (alu.signed a) (alu.signed b)
compared ULong f g a b = g a b
compared kind.Bool f g a b = g a b

module _ (a b w : ℕ) where
  -- the word of `<` is that of the kind's comparison
  pub less_gives : (k : Kind) → operate Less k a b ≡ Some w
      → Gives Int (test (compared k int_lt nat_lt a b)) w
  unfolding operate
  less_gives Char h = answered (compared Char int_lt nat_lt a b) w h
  less_gives UChar h = answered (compared UChar int_lt nat_lt a b) w h
  less_gives Short h = answered (compared Short int_lt nat_lt a b) w h
  less_gives UShort h = answered (compared UShort int_lt nat_lt a b) w h
  less_gives Int h = answered (compared Int int_lt nat_lt a b) w h
  less_gives UInt h = answered (compared UInt int_lt nat_lt a b) w h
  less_gives Long h = answered (compared Long int_lt nat_lt a b) w h
  less_gives ULong h = answered (compared ULong int_lt nat_lt a b) w h
  less_gives kind.Bool h = answered (compared kind.Bool int_lt nat_lt a b) w h

  -- the word of `>` is that of the kind's comparison, sides exchanged
  pub greater_gives : (k : Kind) → operate Greater k a b ≡ Some w
      → Gives Int (test (compared k int_lt nat_lt b a)) w
  unfolding operate
  greater_gives Char h = answered (compared Char int_lt nat_lt b a) w h
  greater_gives UChar h = answered (compared UChar int_lt nat_lt b a) w h
  greater_gives Short h = answered (compared Short int_lt nat_lt b a) w h
  greater_gives UShort h = answered (compared UShort int_lt nat_lt b a) w h
  greater_gives Int h = answered (compared Int int_lt nat_lt b a) w h
  greater_gives UInt h = answered (compared UInt int_lt nat_lt b a) w h
  greater_gives Long h = answered (compared Long int_lt nat_lt b a) w h
  greater_gives ULong h = answered (compared ULong int_lt nat_lt b a) w h
  greater_gives kind.Bool h = answered (compared kind.Bool int_lt nat_lt b a) w h

  -- the word of `<=` is that of the kind's comparison
  pub less_equal_gives : (k : Kind) → operate LessEqual k a b ≡ Some w
      → Gives Int (test (compared k int_le nat_le a b)) w
  unfolding operate
  less_equal_gives Char h = answered (compared Char int_le nat_le a b) w h
  less_equal_gives UChar h = answered (compared UChar int_le nat_le a b) w h
  less_equal_gives Short h = answered (compared Short int_le nat_le a b) w h
  less_equal_gives UShort h = answered (compared UShort int_le nat_le a b) w h
  less_equal_gives Int h = answered (compared Int int_le nat_le a b) w h
  less_equal_gives UInt h = answered (compared UInt int_le nat_le a b) w h
  less_equal_gives Long h = answered (compared Long int_le nat_le a b) w h
  less_equal_gives ULong h = answered (compared ULong int_le nat_le a b) w h
  less_equal_gives kind.Bool h = answered (compared kind.Bool int_le nat_le a b) w h

  -- the word of `>=` is that of the kind's comparison, sides exchanged
  pub greater_equal_gives : (k : Kind) → operate GreaterEqual k a b ≡ Some w
      → Gives Int (test (compared k int_le nat_le b a)) w
  unfolding operate
  greater_equal_gives Char h = answered (compared Char int_le nat_le b a) w h
  greater_equal_gives UChar h = answered (compared UChar int_le nat_le b a) w h
  greater_equal_gives Short h = answered (compared Short int_le nat_le b a) w h
  greater_equal_gives UShort h = answered (compared UShort int_le nat_le b a) w h
  greater_equal_gives Int h = answered (compared Int int_le nat_le b a) w h
  greater_equal_gives UInt h = answered (compared UInt int_le nat_le b a) w h
  greater_equal_gives Long h = answered (compared Long int_le nat_le b a) w h
  greater_equal_gives ULong h = answered (compared ULong int_le nat_le b a) w h
  greater_equal_gives kind.Bool h = answered (compared kind.Bool int_le nat_le b a) w h
