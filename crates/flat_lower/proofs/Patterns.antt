-- Operations on bits, shifts, operations on one number, and bumps: the words that the machine's
-- operations give.
use Rattle.std.proofs.Common.{◌≡◌, ◌≢◌, ℕ, zero, suc, ◌+◌, ◌-◌, ◌*◌, ◌/◌, ◌%◌, ◌^◌, ◌<◌, ◌≤◌, ◌⊎◌, inl, inr, ℤ, pos}
use Rattle.std.proofs.Common.{negsuc, Bool, true, false, cond, Option, Some, None, refl, sym, ap, ap₂, ◌∙◌, subst}
use Rattle.std.proofs.Common.{arith}
use Rattle.std.specs.Prelude.{◌+ℤ◌, ◌-ℤ◌, ◌*ℤ◌, not, ◌&&◌, nat_eq, nat_lt, int_le, FitsSigned, unsigned_abs, bit_and}
use Rattle.std.specs.Prelude.{bit_or, bit_xor}
use Rattle.std.specs.Int.{w64, cast_signed, cast_unsigned, int_shr}
use Rattle.std.proofs.lemmas.Int.{ints}
use Rattle.std.proofs.lemmas.Bool.Decides.{nat_tests}
use native.Mathlib.Nat.{div-le_self, mod-lt}
use lib.Bits.{and_block, or_block, xor_block, and_lt, or_lt, xor_lt}
use Rattle.c_tree.specs.declared.Kind.{Kind}
use Rattle.c_tree.specs.declared.Kind.TheVariants.{Char, UChar, Short, UShort, Int, UInt, Long, ULong}
use Rattle.c_tree.specs.declared.Kind.TheVariants as kind
use Rattle.c_tree.specs.declared.UnaryOp.{UnaryOp}
use Rattle.c_tree.specs.declared.UnaryOp.TheVariants.{Plus, Minus, Complement, Not}
use Rattle.c_tree.specs.declared.BinaryOp.TheVariants.{BitOr, BitXor, BitAnd, ShiftLeft, ShiftRight}
use Rattle.c_constant.specs.Kinds.{width, number, word, word_of, reduced, in_kind, IsWord}
use Rattle.c_constant.specs.Operation.{answer, is_zero, shifted_left, shifted_right, on_bits, operate, operate_one}
use Rattle.trips_isa.specs.Alu.{test}
use Rattle.trips_isa.specs.Alu as alu
use Rattle.flat_lower.specs.inside.Kinds.{IsArithmetic}
use Rattle.c_constant.proofs.Conversions.{word_signed, word_number, order}
use Rattle.flat_lower.proofs.Words.{sub_word, word_of_is, Lies, between_is, fits_int, fits_long, narrow_int}
use Rattle.flat_lower.proofs.Operators.{reduced_word, Gives, answered, less_uint, less_ulong}
use Rattle.flat_lower.proofs.Quotients.{long_word, int_near}

-- BITS

-- an int's word has high bits that are all the same
high_bits : (a : ℕ) → IsWord Int a → (a / 2147483648 ≡ 0) ⊎ (a / 2147483648 ≡ 8589934591)
high_bits a f = go (order a 2147483648)
  where
    go : ((a < 2147483648) ⊎ (2147483648 ≤ a))
        → (a / 2147483648 ≡ 0) ⊎ (a / 2147483648 ≡ 8589934591)
    go (inl l) = inl (omega arith)
    go (inr l) = let p = f.below in let n : (a + 2147483648) % 2 ^ 64 < 4294967296 = f.narrow in inr (omega arith)

-- an operation that is done block by block, and keeps below a power of two
module _ (f : ℕ → ℕ → ℕ)
    (block : (k a b r s : ℕ) → r < 2 ^ k → s < 2 ^ k
    → f (a * 2 ^ k + r) (b * 2 ^ k + s) ≡ f a b * 2 ^ k + f r s)
    (below : (k a b : ℕ) → a < 2 ^ k → b < 2 ^ k → f a b < 2 ^ k)
    (none : f 0 0 ≡ 0) (left : (f 8589934591 0 ≡ 0) ⊎ (f 8589934591 0 ≡ 8589934591))
    (right : (f 0 8589934591 ≡ 0) ⊎ (f 0 8589934591 ≡ 8589934591)) (both : (f 8589934591 8589934591 ≡ 0)
    ⊎ (f 8589934591 8589934591 ≡ 8589934591)) where
  high : (a b : ℕ) → f a b / 2147483648 ≡ f (a / 2147483648) (b / 2147483648)
  high a b =
      let r = a % 2147483648 in
      let s = b % 2147483648 in
      let ea : a ≡ a / 2147483648 * 2 ^ 31 + r = omega arith in
      let eb : b ≡ b / 2147483648 * 2 ^ 31 + s = omega arith in
      let l = below 31 r s (omega arith) (omega arith) in
      let e : f a b ≡ f (a / 2147483648) (b / 2147483648) * 2 ^ 31 + f r s = ap₂ f ea eb ∙ block 31 (a / 2147483648)
      (b / 2147483648) r s (omega arith) (omega arith) in
      omega arith

  narrow_from : (r : ℕ) → r < 2 ^ 64 → ((r / 2147483648 ≡ 0) ⊎ (r / 2147483648 ≡ 8589934591))
      → IsWord Int r
  narrow_from r p (inl e) = record { below = p; narrow = omega arith }
  narrow_from r p (inr e) = record { below = p; narrow = omega arith }

  closed : (a b : ℕ) → IsWord Int a → IsWord Int b → IsWord Int (f a b)
  closed a b x y = narrow_from (f a b) (below 64 a b x.below y.below)
      (go (high_bits a x) (high_bits b y))
    where
      at_bits : (u v : ℕ) → a / 2147483648 ≡ u → b / 2147483648 ≡ v
          → ((f u v ≡ 0) ⊎ (f u v ≡ 8589934591))
          → (f a b / 2147483648 ≡ 0) ⊎ (f a b / 2147483648 ≡ 8589934591)
      at_bits u v e g (inl h) = inl (high a b ∙ ap₂ f e g ∙ h)
      at_bits u v e g (inr h) = inr (high a b ∙ ap₂ f e g ∙ h)

      go : ((a / 2147483648 ≡ 0) ⊎ (a / 2147483648 ≡ 8589934591))
          → ((b / 2147483648 ≡ 0) ⊎ (b / 2147483648 ≡ 8589934591))
          → (f a b / 2147483648 ≡ 0) ⊎ (f a b / 2147483648 ≡ 8589934591)
      go (inl e) (inl g) = at_bits 0 0 e g (inl none)
      go (inl e) (inr g) = at_bits 0 8589934591 e g right
      go (inr e) (inl g) = at_bits 8589934591 0 e g left
      go (inr e) (inr g) = at_bits 8589934591 8589934591 e g both

  closes : (k : Kind) → IsArithmetic k → (a b : ℕ) → IsWord k a → IsWord k b → IsWord k (f a b)
  closes Char t a b x y = absurd t
  closes UChar t a b x y = absurd t
  closes Short t a b x y = absurd t
  closes UShort t a b x y = absurd t
  closes Int t a b x y = closed a b x y
  closes UInt t a b x y = record {
    below = below 64 a b x.below y.below;
    narrow = below 32 a b x.narrow y.narrow;
  }
  closes Long t a b x y = record { below = below 64 a b x.below y.below; narrow = omega arith }
  closes ULong t a b x y =
      let l = below 64 a b x.below y.below in record { below = l; narrow = l }
  closes kind.Bool t a b x y = absurd t

  bits_give : (k : Kind) → IsArithmetic k → (a b w : ℕ) → IsWord k a → IsWord k b
      → word_of (on_bits f k (number k a) (number k b)) ≡ Some w → Gives k (f a b) w
  bits_give k t a b w x y h =
      let c = closes k t a b x y in
      let e : word (number k (f (word (number k a)) (word (number k b)))) ≡ w = cc in
      let g : f a b ≡ w = sym (word_number k (f a b) c.below) ∙ ap (λ v. word (number k v))
      (ap₂ f (sym (word_number k a x.below)) (sym (word_number k b y.below))) ∙ e in
      record { is = g; fits = subst (IsWord k) g c }

module _ (k : Kind) (t : IsArithmetic k) (a b w : ℕ) (x : IsWord k a) (y : IsWord k b) where
  -- the word of `&` is the machine's
  pub and_gives : operate BitAnd k a b ≡ Some w → Gives k (bit_and a b) w
  unfolding operate
  and_gives h = bits_give bit_and and_block and_lt refl (inl refl) (inl refl)
      (inr refl) k t a b w x y h

  -- the word of `|` is the machine's
  pub or_gives : operate BitOr k a b ≡ Some w → Gives k (bit_or a b) w
  unfolding operate
  or_gives h = bits_give bit_or or_block or_lt refl (inr refl) (inr refl) (inr refl) k t a b w x y h

  -- the word of `^` is the machine's
  pub xor_gives : operate BitXor k a b ≡ Some w → Gives k (bit_xor a b) w
  unfolding operate
  xor_gives h = bits_give bit_xor xor_block xor_lt refl (inr refl) (inr refl)
      (inl refl) k t a b w x y h

-- SHIFTS

some_if : {A : Type 0} (t : Bool) (o : Option A) (z : A) → cond t o None ≡ Some z
    → (t ≡ true) × (o ≡ Some z)
some_if true o z h = (refl, h)
some_if false o z h = absurd (cc h)

same_some : (x y : ℤ) → Some x ≡ Some y → x ≡ y
same_some x y h = cc h

module _ (a b w : ℕ) (p : a < 2 ^ 64) (q : b < 2 ^ 64) where
  small_count : (n : ℕ) → nat_lt b n ≡ true → n ≤ 64 → b % 64 ≡ b
  small_count n h le = let lt : b < n = grind (arith, nat_tests) in omega arith

  left_int : (x y : ℤ) → word x ≡ a → word y ≡ b → word_of (shifted_left Int x y) ≡ Some w
      → Gives Int ((a * 2 ^ (b % 64)) % 2 ^ 64) w
  left_int (negsuc n) y e f h = absurd (cc h)
  left_int (pos n) (negsuc m) e f h = absurd (cc h)
  left_int (pos n) (pos m) e f h =
      let v = word_of_is _ w h in
      let s = some_if (nat_lt m 32) (in_kind Int (pos (n * 2 ^ m))) v.0 v.1 in
      let l = between_is (negsuc 2147483647) (pos 2147483647) (pos (n * 2 ^ m)) v.0 s.1 in
      let c : b % 64 ≡ m = small_count 32 (ap (λ b. nat_lt b 32) (sym f) ∙ s.0) (omega arith) ∙ sym f in
      let top : int_le (pos (n * 2 ^ m)) (pos 2147483647) ≡ true = l.below in
      let small : n * 2 ^ m ≤ 2147483647 = omega (arith, ints, top) in
      let g : (a * 2 ^ (b % 64)) % 2 ^ 64 ≡ n * 2 ^ m = ap₂ (λ a c. (a * 2 ^ c) % 2 ^ 64) (sym e) c ∙ omega arith in
      let r : n * 2 ^ m ≡ w = ap word l.is ∙ v.2 in
      record { is = g ∙ r; fits = subst (IsWord Int) r (narrow_int (pos (n * 2 ^ m)) v.0 l) }

  left_long : (x y : ℤ) → word x ≡ a → word y ≡ b → word_of (shifted_left Long x y) ≡ Some w
      → Gives Long ((a * 2 ^ (b % 64)) % 2 ^ 64) w
  left_long (negsuc n) y e f h = absurd (cc h)
  left_long (pos n) (negsuc m) e f h = absurd (cc h)
  left_long (pos n) (pos m) e f h =
      let v = word_of_is _ w h in
      let s = some_if (nat_lt m 64) (in_kind Long (pos (n * 2 ^ m))) v.0 v.1 in
      let l = between_is (negsuc 9223372036854775807) (pos 9223372036854775807) (pos (n * 2 ^ m)) v.0 s.1 in
      let c : b % 64 ≡ m = small_count 64 (ap (λ b. nat_lt b 64) (sym f) ∙ s.0) (omega arith) ∙ sym f in
      let top : int_le (pos (n * 2 ^ m)) (pos 9223372036854775807) ≡ true = l.below in
      let small : n * 2 ^ m ≤ 9223372036854775807 = omega (arith, ints, top) in
      let g : (a * 2 ^ (b % 64)) % 2 ^ 64 ≡ n * 2 ^ m = ap₂ (λ a c. (a * 2 ^ c) % 2 ^ 64) (sym e) c ∙ omega arith in
      let r : n * 2 ^ m ≡ w = ap word l.is ∙ v.2 in
      record { is = g ∙ r; fits = subst (IsWord Long) r (long_word (pos (n * 2 ^ m)) v.0 l) }

  -- the word of a left shift is the machine's left shift, at the kind
  pub left_gives : (k : Kind) → IsArithmetic k → operate ShiftLeft k a b ≡ Some w
      → Gives k (reduced_word k ((a * 2 ^ (b % 64)) % 2 ^ 64)) w
  unfolding operate
  left_gives Char t h = absurd t
  left_gives UChar t h = absurd t
  left_gives Short t h = absurd t
  left_gives UShort t h = absurd t
  left_gives Int t h = left_int (number Int a) (number Int b) (word_number Int a p)
      (word_number Int b q) h
  left_gives UInt t h =
      let v = word_of_is _ w h in
      let s = some_if (nat_lt b 32) (in_kind UInt (pos (a * 2 ^ b))) v.0 v.1 in
      let c : b % 64 ≡ b = small_count 32 s.0 (omega arith) in
      let r : (a * 2 ^ b) % 4294967296 ≡ w = ap word (same_some _ _ s.1) ∙ v.2 in
      record {
        is = ap (λ c. ((a * 2 ^ c) % 2 ^ 64) % 2 ^ 32) c ∙ omega arith;
        fits = record { below = omega arith; narrow = omega arith };
      }
  left_gives Long t h = left_long (number Long a) (number Long b) (word_number Long a p)
      (word_number Long b q) h
  left_gives ULong t h =
      let v = word_of_is _ w h in
      let s = some_if (nat_lt b 64) (in_kind ULong (pos (a * 2 ^ b))) v.0 v.1 in
      let c : b % 64 ≡ b = small_count 64 s.0 (omega arith) in
      let r : (a * 2 ^ b) % 18446744073709551616 ≡ w = ap word (same_some _ _ s.1) ∙ v.2 in
      record {
        is = ap (λ c. (a * 2 ^ c) % 2 ^ 64) c ∙ r;
        fits = record { below = omega arith; narrow = omega arith };
      }
  left_gives kind.Bool t h = absurd t

-- a number of an int's range, by its magnitude
abbrev InInt : ℤ → Type 0
InInt (pos n) = n < 2147483648
InInt (negsuc n) = n < 2147483648

int_lies : (b : ℕ) → IsWord Int b → InInt (cast_signed w64 b)
int_lies b f = go (cast_signed w64 b) refl
  where
    go : (z : ℤ) → cast_signed w64 b ≡ z → InInt z
    go (pos n) e =
        let p = f.below in
        let m : (b + 2147483648) % 2 ^ 64 < 4294967296 = f.narrow in
        let g : n ≡ b = sym (ap word e) ∙ word_signed b p in
        let u : unsigned_abs (cast_signed w64 b) ≤ 2147483648 = int_near b f in
        let v : unsigned_abs (cast_signed w64 b) ≡ n = ap unsigned_abs e in
        omega arith
    go (negsuc n) e =
        let u : unsigned_abs (cast_signed w64 b) ≤ 2147483648 = int_near b f in
        let v : unsigned_abs (cast_signed w64 b) ≡ suc n = ap unsigned_abs e in
        omega arith

-- a shifted number of an int's range is in it
shifted_int : (x : ℤ) (m : ℕ) → InInt x → IsWord Int (word (int_shr x m))
shifted_int (pos n) m h = let le = div-le_self n (2 ^ m) in record { below = omega arith; narrow = omega arith }
shifted_int (negsuc n) m h = let le = div-le_self n (2 ^ m) in record { below = omega arith; narrow = omega arith }

shifted_long : (b m : ℕ) → word (int_shr (cast_signed w64 b) m) < 2 ^ 64
shifted_long b m = go (cast_signed w64 b) refl
  where
    go : (z : ℤ) → cast_signed w64 b ≡ z → word (int_shr z m) < 2 ^ 64
    go (pos n) e =
        let u : unsigned_abs (cast_signed w64 b) ≤ 9223372036854775808 = omega (arith, ints) in
        let v : unsigned_abs (cast_signed w64 b) ≡ n = ap unsigned_abs e in
        let le = div-le_self n (2 ^ m) in
        omega arith
    go (negsuc n) e = omega arith

module _ (a b w : ℕ) (q : b < 2 ^ 64) where
  shifts : (k : Kind) (n : ℕ) → n ≤ 64 → width k ≡ n → (x y : ℤ) → word y ≡ b
      → word_of (shifted_right k x y) ≡ Some w → word (int_shr x (b % 64)) ≡ w
  shifts k n le e x (negsuc m) f h = absurd (cc h)
  shifts k n le e x (pos m) f h =
      let v = word_of_is _ w h in
      let s = some_if (nat_lt m (width k)) (Some (int_shr x m)) v.0 v.1 in
      let lt : m < width k = grind (arith, nat_tests) in
      let c : b % 64 ≡ m = omega arith in
      ap (λ c. word (int_shr x c)) c ∙ ap word (same_some _ _ s.1) ∙ v.2

  natural_shift : (k : Kind) (n : ℕ) → n ≤ 64 → width k ≡ n
      → word_of (shifted_right k (pos a) (pos b)) ≡ Some w → a / 2 ^ (b % 64) ≡ w
  natural_shift k n le e h = shifts k n le e (pos a) (pos b) refl h

-- what a shift to the right gives
abbrev pub shifted : Kind → ℕ → ℕ → ℕ
shifted Char a b = word (int_shr (alu.signed a) (b % 64))
shifted UChar a b = a / 2 ^ (b % 64)
shifted Short a b = word (int_shr (alu.signed a) (b % 64))
shifted UShort a b = a / 2 ^ (b % 64)
shifted Int a b = word (int_shr (alu.signed a) (b % 64))
shifted UInt a b = a / 2 ^ (b % 64)
shifted Long a b = word (int_shr (alu.signed a) (b % 64))
shifted ULong a b = a / 2 ^ (b % 64)
shifted kind.Bool a b = a / 2 ^ (b % 64)

module _ (a b w : ℕ) (q : b < 2 ^ 64) where
  -- the word of a right shift is the machine's right shift, by sign or without
  pub right_gives : (k : Kind) → IsArithmetic k → IsWord k a → operate ShiftRight k a b ≡ Some w
      → Gives k (shifted k a b) w
  unfolding operate
  right_gives Char t f h = absurd t
  right_gives UChar t f h = absurd t
  right_gives Short t f h = absurd t
  right_gives UShort t f h = absurd t
  right_gives Int t f h =
      let e = shifts a b w q Int 32 (omega arith) refl (number Int a) (number Int b) (word_number Int b q) h in
      record {
        is = e;
        fits = subst (IsWord Int) e
            (shifted_int (cast_signed w64 a) (b % 64) (int_lies a f));
      }
  right_gives UInt t f h =
      let e = natural_shift a b w q UInt 32 (omega arith) refl h in
      let lt : a < 4294967296 = f.narrow in
      let le = div-le_self a (2 ^ (b % 64)) in
      record { is = e; fits = record { below = omega arith; narrow = omega arith } }
  right_gives Long t f h =
      let e = shifts a b w q Long 64 (omega arith) refl (number Long a) (number Long b) (word_number Long b q) h in
      record {
        is = e;
        fits = record {
          below = subst (λ v. v < 2 ^ 64) e (shifted_long a (b % 64));
          narrow = omega arith;
        };
      }
  right_gives ULong t f h =
      let e = natural_shift a b w q ULong 64 (omega arith) refl h in
      let lt = f.below in
      let le = div-le_self a (2 ^ (b % 64)) in
      record { is = e; fits = record { below = omega arith; narrow = omega arith } }
  right_gives kind.Bool t f h = absurd t

-- ONE NUMBER

module _ (a w : ℕ) where
  -- the difference of a known word and this one
  pub minus_gives : (k : Kind) → IsArithmetic k → IsWord k a → operate_one Minus k a ≡ Some w
      → Gives k (reduced_word k ((0 + (2 ^ 64 - a)) % 2 ^ 64)) w
  unfolding operate_one
  minus_gives Char t f h = absurd t
  minus_gives UChar t f h = absurd t
  minus_gives Short t f h = absurd t
  minus_gives UShort t f h = absurd t
  minus_gives Int t f h =
      let x = word_of_is _ w h in
      let l = between_is _ _ _ _ x.1 in
      let e : (0 + (2 ^ 64 - a)) % 2 ^ 64 ≡ w = sub_word 0 a (omega arith) f.below (fits_int _ _ l) ∙ ap word l.is
      ∙ x.2 in
      record { is = e; fits = subst (IsWord Int) (ap word l.is ∙ x.2) (narrow_int _ _ l) }
  minus_gives UInt t f h =
      let e : reduced 4294967296 (pos 0 -ℤ pos a) ≡ w = cc in
      let g = less_uint 0 a w (omega arith) f.below in
      record { is = sym g ∙ e; fits = record { below = omega arith; narrow = omega arith } }
  minus_gives Long t f h =
      let x = word_of_is _ w h in
      let l = between_is _ _ _ _ x.1 in
      let e : (0 + (2 ^ 64 - a)) % 2 ^ 64 ≡ w = sub_word 0 a (omega arith) f.below (fits_long _ _ l) ∙ ap word l.is
      ∙ x.2 in
      record { is = e; fits = record { below = omega arith; narrow = omega arith } }
  minus_gives ULong t f h =
      let e : reduced 18446744073709551616 (pos 0 -ℤ pos a) ≡ w = cc in
      let g = less_ulong 0 a w (omega arith) f.below in
      record { is = sym g ∙ e; fits = record { below = omega arith; narrow = omega arith } }
  minus_gives kind.Bool t f h = absurd t

  -- all bits of a number turned
  turned : negsuc 0 -ℤ pos a ≡ negsuc a
  turned = omega (arith, ints)

  -- the word of `~` is what the machine takes from -1, at the kind
  pub complement_gives : (k : Kind) → IsArithmetic k → IsWord k a
      → operate_one Complement k a ≡ Some w
      → Gives k (reduced_word k ((18446744073709551615 + (2 ^ 64 - a)) % 2 ^ 64)) w
  unfolding operate_one
  complement_gives Char t f h = absurd t
  complement_gives UChar t f h = absurd t
  complement_gives Short t f h = absurd t
  complement_gives UShort t f h = absurd t
  complement_gives Int t f h =
      let x = word_of_is _ w h in
      let l = between_is _ _ _ _ x.1 in
      let e : (18446744073709551615 + (2 ^ 64 - a)) % 2 ^ 64 ≡ w = sub_word 18446744073709551615 a
      (omega arith) f.below (fits_int _ _ l) ∙ ap word l.is ∙ x.2 in
      record { is = e; fits = subst (IsWord Int) (ap word l.is ∙ x.2) (narrow_int _ _ l) }
  complement_gives UInt t f h =
      let lt = f.below in
      let z : word_of (in_kind UInt (negsuc a)) ≡ Some w = ap (λ z. word_of (in_kind UInt z)) (sym turned) ∙ h in
      let e : (4294967296 - 1) - a % 4294967296 ≡ w = cc in
      record { is = omega arith; fits = record { below = omega arith; narrow = omega arith } }
  complement_gives Long t f h =
      let x = word_of_is _ w h in
      let l = between_is _ _ _ _ x.1 in
      let e : (18446744073709551615 + (2 ^ 64 - a)) % 2 ^ 64 ≡ w = sub_word 18446744073709551615 a
      (omega arith) f.below (fits_long _ _ l) ∙ ap word l.is ∙ x.2 in
      record { is = e; fits = record { below = omega arith; narrow = omega arith } }
  complement_gives ULong t f h =
      let lt = f.below in
      let z : word_of (in_kind ULong (negsuc a)) ≡ Some w = ap (λ z. word_of (in_kind ULong z)) (sym turned) ∙ h in
      let e : (18446744073709551616 - 1) - a % 18446744073709551616 ≡ w = cc in
      record { is = omega arith; fits = record { below = omega arith; narrow = omega arith } }
  complement_gives kind.Bool t f h = absurd t

  -- the word of `!` is the machine's test for 0
  pub not_gives : a < 2 ^ 64 → (k : Kind) → operate_one Not k a ≡ Some w
      → Gives Int (test (nat_eq a 0)) w
  unfolding operate_one
  not_gives p k h = answered (nat_eq a 0) w (ap (λ x. word_of (answer x)) (sym (zero_is k)) ∙ h)
    where
      signed_zero : is_zero (cast_signed w64 a) ≡ nat_eq a 0
      signed_zero = go (cast_signed w64 a) refl
        where
          go : (z : ℤ) → cast_signed w64 a ≡ z → is_zero z ≡ nat_eq a 0
          go (pos n) e = ap (λ n. nat_eq n 0) (sym (ap word e) ∙ word_signed a p)
          go (negsuc n) e =
              let u : unsigned_abs (cast_signed w64 a) ≤ 9223372036854775808 = omega (arith, ints) in
              let v : unsigned_abs (cast_signed w64 a) ≡ suc n = ap unsigned_abs e in
              let g : 2 ^ 64 - suc n ≡ a = sym (ap word e) ∙ word_signed a p in
              let lt : 0 < a = omega arith in
              grind (arith, nat_tests)

      zero_is : (k : Kind) → is_zero (number k a) ≡ nat_eq a 0
      zero_is UChar = refl
      zero_is UShort = refl
      zero_is UInt = refl
      zero_is ULong = refl
      zero_is Char = signed_zero
      zero_is Short = signed_zero
      zero_is Int = signed_zero
      zero_is Long = signed_zero
      zero_is kind.Bool = refl

  -- the word of a unary `+` is the word itself
  pub plus_gives : (k : Kind) → IsWord k a → operate_one Plus k a ≡ Some w → Gives k a w
  unfolding operate_one
  plus_gives k f h =
      let e : word (number k a) ≡ w = cc in
      record { is = sym (word_number k a f.below) ∙ e; fits = subst (IsWord k) (sym (word_number k a f.below) ∙ e) f }
