-- The word of a quotient and of a remainder is the machine's.
use Rattle.std.proofs.Common.{◌≡◌, ℕ, zero, suc, ◌+◌, ◌-◌, ◌*◌, ◌/◌, ◌%◌, ◌^◌, ◌<◌, ◌≤◌}
use Rattle.std.proofs.Common.{ℤ, pos, negsuc, Bool, true, false, cond, Option, Some, None}
use Rattle.std.proofs.Common.{refl, sym, ap, ◌∙◌, subst, arith}
use Rattle.std.specs.Prelude.{◌-ℤ◌, ◌*ℤ◌, int_div, int_rem, nat_eq}
use Rattle.std.specs.Prelude.{FitsSigned, unsigned_abs}
use Rattle.std.specs.Int.{w64, cast_signed, int_wrap}
use Rattle.std.proofs.lemmas.Int.{ints, of_z-to_z, to_z-of_z, int_wrap_fits, int_wrap-sub_right}
use Rattle.std.proofs.lemmas.Int.{wrapping_sub-bits, wrapping_mul-bits, quot-rem, rem_below}
use Rattle.std.proofs.lemmas.Int.{fits_signed_from_abs}
use Rattle.std.proofs.lemmas.Bool.Decides.{nat_tests}
use native.Mathlib.Nat.{div-le_self, div-add-mod'}
use Rattle.c_tree.specs.declared.Kind.{Kind}
use Rattle.c_tree.specs.declared.Kind.TheVariants.{Char, UChar, Short, UShort, Int, UInt, Long, ULong}
use Rattle.c_tree.specs.declared.Kind.TheVariants as kind
use Rattle.c_tree.specs.declared.BinaryOp.TheVariants.{Divide, Remainder}
use Rattle.c_constant.specs.Kinds.{number, word, in_kind}
use Rattle.c_constant.specs.Operation.{is_zero, quotient, provided}
use Rattle.c_constant.specs.Operation.{operate}
use Rattle.trips_isa.specs.Alu as alu
use Rattle.c_constant.specs.Kinds.{IsWord}
use Rattle.flat_lower.specs.inside.Kinds.{IsArithmetic}
use Rattle.c_constant.proofs.Conversions.{word_signed}
use Rattle.flat_lower.proofs.Words.{word_of_is, Lies, between_is, fits_int, fits_long, narrow_int}
use Rattle.flat_lower.proofs.Operators.{Gives}

-- QUOTIENTS

same_some : (x y : ℤ) → Some x ≡ Some y → x ≡ y
same_some x y h = cc h

-- the word of a number of a long's range is one of a long
pub long_word : (z r : ℤ) → Lies (negsuc 9223372036854775807) (pos 9223372036854775807) z r
    → IsWord Long (word z)
long_word (pos n) r l =
    let a = l.above in let b = l.below in let h : n < 9223372036854775808 = omega (arith, ints) in
    record { below = omega arith; narrow = omega arith }
long_word (negsuc n) r l = record { below = omega arith; narrow = omega arith }

-- a quotient that is there is in its type, and its divisor is not 0
pub record Divided (k : Kind) (x y z : ℤ) : Type 0 where
  pub some : is_zero y ≡ false
  pub kept : in_kind k (int_div x y) ≡ Some z

quotient_is : (k : Kind) (x y z : ℤ) → quotient k x y ≡ Some z → Divided k x y z
quotient_is k x y z h = go (is_zero y) refl h
  where
    go : (t : Bool) → is_zero y ≡ t → cond t None (in_kind k (int_div x y)) ≡ Some z
        → Divided k x y z
    go true e h = absurd (cc h)
    go false e h = record { some = e; kept = h }

-- a word that is read as another number than 0 is not 0
not_zero : (k : Kind) (b : ℕ) → is_zero (number k b) ≡ false → nat_eq b 0 ≡ false
not_zero k b h = go (nat_eq b 0) refl
  where
    zero_number : (k : Kind) → is_zero (number k 0) ≡ true
    zero_number Char = refl
    zero_number UChar = refl
    zero_number Short = refl
    zero_number UShort = refl
    zero_number Int = refl
    zero_number UInt = refl
    zero_number Long = refl
    zero_number ULong = refl
    zero_number kind.Bool = refl

    go : (x : Bool) → nat_eq b 0 ≡ x → x ≡ false
    go false e = refl
    go true e =
        let z : b ≡ 0 = grind (arith, nat_tests) in sym (zero_number k) ∙ ap (λ b. is_zero (number k b)) (sym z) ∙ h

-- what a division gives, whose divisor is not 0
pub record Quotient (k : Kind) (b x w : ℕ) : Type 0 where
  pub some : nat_eq b 0 ≡ false
  pub gives : Gives k x w

-- the machine's quotient at a kind, by sign or without
abbrev pub divided : Kind → ℕ → ℕ → ℕ
divided Char a b = alu.quotient a b
divided UChar a b = alu.quotient_unsigned a b
divided Short a b = alu.quotient a b
divided UShort a b = alu.quotient_unsigned a b
divided Int a b = alu.quotient a b
divided UInt a b = alu.quotient_unsigned a b
divided Long a b = alu.quotient a b
divided ULong a b = alu.quotient_unsigned a b
divided kind.Bool a b = alu.quotient_unsigned a b

module _ (a b w : ℕ) where
  -- The machine's quotient with a sign, by what is not 0.
  pub signed_quotient : nat_eq b 0 ≡ false → alu.quotient a b
      ≡ word (int_div (alu.signed a) (alu.signed b))
  signed_quotient e = ap (λ t. cond t 0 (word (int_div (alu.signed a) (alu.signed b)))) e

  -- The machine's quotient without sign, by what is not 0.
  pub unsigned_quotient : nat_eq b 0 ≡ false → alu.quotient_unsigned a b ≡ a / b
  unsigned_quotient e = ap (λ t. cond t 0 (a / b)) e

  quotient_below : a / b ≤ a
  quotient_below = div-le_self a b

  natural : (b : ℕ) → nat_eq b 0 ≡ false → int_div (pos a) (pos b) ≡ pos (a / b)
  natural zero e = absurd (cc e)
  natural (suc b) e = refl

  -- the word of a quotient is the machine's quotient, where the divisor is not 0
  pub divide_gives : (k : Kind) → IsArithmetic k → IsWord k a → b < 2 ^ 64
      → operate Divide k a b ≡ Some w → Quotient k b (divided k a b) w
  unfolding operate
  divide_gives Char t f q h = absurd t
  divide_gives UChar t f q h = absurd t
  divide_gives Short t f q h = absurd t
  divide_gives UShort t f q h = absurd t
  divide_gives Int t f q h =
      let x = word_of_is _ w h in
      let d = quotient_is Int (number Int a) (number Int b) x.0 x.1 in
      let z = not_zero Int b d.some in
      let l = between_is (negsuc 2147483647) (pos 2147483647) (int_div (number Int a) (number Int b)) x.0 d.kept in
      record {
        some = z;
        gives = record {
          is = signed_quotient z ∙ ap word l.is ∙ x.2;
          fits = subst (IsWord Int) (ap word l.is ∙ x.2) (narrow_int _ _ l);
        };
      }
  divide_gives UInt t f q h =
      let x = word_of_is _ w h in
      let d = quotient_is UInt (number UInt a) (number UInt b) x.0 x.1 in
      let z = not_zero UInt b d.some in
      let lt : a < 4294967296 = f.narrow in
      let le = quotient_below in
      let e : in_kind UInt (pos (a / b)) ≡ Some x.0 = ap (in_kind UInt) (sym (natural b z)) ∙ d.kept in
      let v : (a / b) % 4294967296 ≡ w = ap word (same_some _ _ e) ∙ x.2 in
      record {
        some = z;
        gives = record {
          is = unsigned_quotient z ∙ omega arith;
          fits = record { below = omega arith; narrow = omega arith };
        };
      }
  divide_gives Long t f q h =
      let x = word_of_is _ w h in
      let d = quotient_is Long (number Long a) (number Long b) x.0 x.1 in
      let z = not_zero Long b d.some in
      let l = between_is (negsuc 9223372036854775807) (pos 9223372036854775807)
      (int_div (number Long a) (number Long b)) x.0 d.kept in
      record {
        some = z;
        gives = record {
          is = signed_quotient z ∙ ap word l.is ∙ x.2;
          fits = subst (IsWord Long) (ap word l.is ∙ x.2) (long_word _ _ l);
        };
      }
  divide_gives ULong t f q h =
      let x = word_of_is _ w h in
      let d = quotient_is ULong (number ULong a) (number ULong b) x.0 x.1 in
      let z = not_zero ULong b d.some in
      let lt : a < 2 ^ 64 = f.below in
      let le = quotient_below in
      let e : in_kind ULong (pos (a / b)) ≡ Some x.0 = ap (in_kind ULong) (sym (natural b z)) ∙ d.kept in
      let v : (a / b) % 18446744073709551616 ≡ w = ap word (same_some _ _ e) ∙ x.2 in
      record {
        some = z;
        gives = record {
          is = unsigned_quotient z ∙ omega arith;
          fits = record { below = omega arith; narrow = omega arith };
        };
      }
  divide_gives kind.Bool t f q h = absurd t

-- REMAINDERS

provided_is : (o : Option ℤ) (r z : ℤ) → provided o r ≡ Some z → (y : ℤ) × (o ≡ Some y) × (r ≡ z)
provided_is None r z h = absurd (cc h)
provided_is (Some y) r z h = (y, refl, same_some r z h)

-- a remainder by an int's divisor is an int's, and one by a long's a long's
near_fits : (z : ℤ) → unsigned_abs z ≤ 2147483648 → unsigned_abs z < 2147483648
    → IsWord Int (word z)
near_fits (pos n) h lt = let e : n < 2147483648 = lt in record { below = omega arith; narrow = omega arith }
near_fits (negsuc n) h lt = let e : suc n < 2147483648 = lt in record { below = omega arith; narrow = omega arith }

-- how far a word's number lies from 0
word_near : (b n : ℕ) → b < 2 ^ 64 → unsigned_abs (cast_signed w64 b) ≤ 9223372036854775808
word_near b n q = omega (arith, ints)

-- an int lies at most 2^31 from 0
pub int_near : (b : ℕ) → IsWord Int b → unsigned_abs (cast_signed w64 b) ≤ 2147483648
int_near b f = go (cast_signed w64 b) refl
  where
    go : (z : ℤ) → cast_signed w64 b ≡ z → unsigned_abs z ≤ 2147483648
    go (pos n) e =
        let p = f.below in
        let m : (b + 2147483648) % 2 ^ 64 < 4294967296 = f.narrow in
        let g : n ≡ b = sym (ap word e) ∙ word_signed b p in
        let u : unsigned_abs (cast_signed w64 b) ≤ 9223372036854775808 = omega (arith, ints) in
        let v : unsigned_abs (cast_signed w64 b) ≡ n = ap unsigned_abs e in
        omega arith
    go (negsuc n) e =
        let p = f.below in
        let m : (b + 2147483648) % 2 ^ 64 < 4294967296 = f.narrow in
        let g : 2 ^ 64 - suc n ≡ b = sym (ap word e) ∙ word_signed b p in
        let u : unsigned_abs (cast_signed w64 b) ≤ 9223372036854775808 = omega (arith, ints) in
        let v : unsigned_abs (cast_signed w64 b) ≡ suc n = ap unsigned_abs e in
        omega arith

is_some : (z : ℤ) → is_zero z ≡ false → 0 < unsigned_abs z
is_some (pos zero) h = absurd (cc h)
is_some (pos (suc n)) h = omega arith
is_some (negsuc n) h = omega arith

-- the quotient's product taken off
module _ (a b : ℕ) (p : a < 2 ^ 64) (q : b < 2 ^ 64) where
  abbrev x : ℤ
  x = cast_signed w64 a

  abbrev y : ℤ
  y = cast_signed w64 b

  abbrev t : ℕ
  t = (word (int_div x y) * b) % 2 ^ 64

  remainder_wraps : FitsSigned w64 (int_div x y)
      → cast_signed w64 ((a + (2 ^ 64 - t)) % 2 ^ 64) ≡ int_wrap w64 (int_rem x y)
  remainder_wraps f =
      let lt : t < 2 ^ 64 = omega arith in
      let m : cast_signed w64 t ≡ int_wrap w64 (int_div x y *ℤ y) =
      wrapping_mul-bits w64 (word (int_div x y)) b (word_fits (int_div x y) f) q
      ∙ ap (λ z. int_wrap w64 (z *ℤ y)) (to_z-of_z w64 (int_div x y) f) in
      let s = quot-rem x y in
      let r : x -ℤ (int_div x y *ℤ y) ≡ int_rem x y = omega (arith, ints, s) in
      wrapping_sub-bits w64 a t p lt
      ∙ ap (λ z. int_wrap w64 (x -ℤ z)) m
      ∙ int_wrap-sub_right w64 x (int_div x y *ℤ y)
      ∙ ap (int_wrap w64) r
    where
      word_fits : (z : ℤ) → FitsSigned w64 z → word z < 2 ^ 64
      word_fits (pos n) f = omega (arith, ints, f)
      word_fits (negsuc n) f = omega arith

  remainder_word : FitsSigned w64 (int_div x y) → is_zero y ≡ false
      → (a + (2 ^ 64 - t)) % 2 ^ 64 ≡ word (int_rem x y)
  remainder_word f z =
      let some = is_some y z in
      let u : unsigned_abs y ≤ 9223372036854775808 = omega (arith, ints) in
      let lt = rem_below x y some in
      let g : FitsSigned w64 (int_rem x y) = fits_signed_from_abs w64 (int_rem x y) (omega arith) in
      let e = remainder_wraps f ∙ int_wrap_fits w64 (int_rem x y) g in
      sym (of_z-to_z w64 ((a + (2 ^ 64 - t)) % 2 ^ 64) (omega arith)) ∙ ap word e

-- what the three operations of a remainder give
abbrev pub remaindered : Kind → ℕ → ℕ → ℕ
remaindered k a b = (a + (2 ^ 64 - (divided k a b * b) % 2 ^ 64)) % 2 ^ 64

module _ (a b w : ℕ) where
  signed_remainder : (k : Kind) (z : ℤ) → a < 2 ^ 64 → b < 2 ^ 64
      → FitsSigned w64 (int_div (cast_signed w64 a) (cast_signed w64 b))
      → is_zero (cast_signed w64 b) ≡ false → nat_eq b 0 ≡ false
      → int_rem (cast_signed w64 a) (cast_signed w64 b) ≡ z → word z ≡ w
      → (a + (2 ^ 64 - (alu.quotient a b * b) % 2 ^ 64)) % 2 ^ 64 ≡ w
  signed_remainder k z p q f n m r h =
      ap (λ u. (a + (2 ^ 64 - (u * b) % 2 ^ 64)) % 2 ^ 64) (signed_quotient a b w m)
      ∙ remainder_word a b p q f n ∙ ap word r ∙ h

  -- The machine's way to the remainder without sign, by what is not 0.
  pub unsigned_remainder : a < 2 ^ 64 → nat_eq b 0 ≡ false
      → (a + (2 ^ 64 - (alu.quotient_unsigned a b * b) % 2 ^ 64)) % 2 ^ 64 ≡ a % b
  unsigned_remainder p m =
      let s = div-add-mod' a b in
      ap (λ u. (a + (2 ^ 64 - (u * b) % 2 ^ 64)) % 2 ^ 64) (unsigned_quotient a b w m)
      ∙ omega (arith, s)

  natural_rem : (b : ℕ) → nat_eq b 0 ≡ false → int_rem (pos a) (pos b) ≡ pos (a % b)
  natural_rem zero e = absurd (cc e)
  natural_rem (suc b) e = refl

  mod_below : nat_eq b 0 ≡ false → a % b ≤ a
  mod_below e = let s = div-add-mod' a b in omega arith

  -- the word of a remainder is the machine's remainder, where the divisor is not 0
  pub remainder_gives : (k : Kind) → IsArithmetic k → IsWord k a → IsWord k b
      → operate Remainder k a b ≡ Some w → Quotient k b (remaindered k a b) w
  unfolding operate
  remainder_gives Char t f g h = absurd t
  remainder_gives UChar t f g h = absurd t
  remainder_gives Short t f g h = absurd t
  remainder_gives UShort t f g h = absurd t
  remainder_gives Int t f g h =
      let x = word_of_is _ w h in
      let r = provided_is (quotient Int (number Int a) (number Int b)) (int_rem (number Int a) (number Int b)) x.0
      x.1 in
      let d = quotient_is Int (number Int a) (number Int b) r.0 r.1 in
      let z = not_zero Int b d.some in
      let l = between_is (negsuc 2147483647) (pos 2147483647) (int_div (number Int a) (number Int b)) r.0 d.kept in
      let near = int_near b g in
      let lt = rem_below (number Int a) (number Int b) (is_some (number Int b) d.some) in
      let fits = near_fits (int_rem (number Int a) (number Int b)) (omega arith) (omega arith) in
      record {
        some = z;
        gives = record {
          is = signed_remainder Int x.0 f.below g.below
              (fits_int _ _ l) d.some z r.2 x.2;
          fits = subst (IsWord Int) (ap word r.2 ∙ x.2) fits;
        };
      }
  remainder_gives UInt t f g h =
      let x = word_of_is _ w h in
      let r = provided_is (quotient UInt (number UInt a) (number UInt b)) (int_rem (number UInt a) (number UInt b))
      x.0 x.1 in
      let d = quotient_is UInt (number UInt a) (number UInt b) r.0 r.1 in
      let z = not_zero UInt b d.some in
      let e : a % b ≡ w = ap word (sym (natural_rem b z) ∙ r.2) ∙ x.2 in
      let lt : a < 4294967296 = f.narrow in
      let le = mod_below z in
      record {
        some = z;
        gives = record {
          is = unsigned_remainder f.below z ∙ e;
          fits = record { below = omega arith; narrow = omega arith };
        };
      }
  remainder_gives Long t f g h =
      let x = word_of_is _ w h in
      let r = provided_is (quotient Long (number Long a) (number Long b)) (int_rem (number Long a) (number Long b))
      x.0 x.1 in
      let d = quotient_is Long (number Long a) (number Long b) r.0 r.1 in
      let z = not_zero Long b d.some in
      let l = between_is (negsuc 9223372036854775807) (pos 9223372036854775807)
      (int_div (number Long a) (number Long b)) r.0 d.kept in
      let e = signed_remainder Long x.0 f.below g.below (fits_long _ _ l) d.some z r.2 x.2 in
      record {
        some = z;
        gives = record {
          is = e;
          fits = record { below = omega arith; narrow = omega arith };
        };
      }
  remainder_gives ULong t f g h =
      let x = word_of_is _ w h in
      let r = provided_is (quotient ULong (number ULong a) (number ULong b))
      (int_rem (number ULong a) (number ULong b)) x.0 x.1 in
      let d = quotient_is ULong (number ULong a) (number ULong b) r.0 r.1 in
      let z = not_zero ULong b d.some in
      let e : a % b ≡ w = ap word (sym (natural_rem b z) ∙ r.2) ∙ x.2 in
      let lt = f.below in
      let le = mod_below z in
      record {
        some = z;
        gives = record {
          is = unsigned_remainder f.below z ∙ e;
          fits = record { below = omega arith; narrow = omega arith };
        };
      }
  remainder_gives kind.Bool t f g h = absurd t
