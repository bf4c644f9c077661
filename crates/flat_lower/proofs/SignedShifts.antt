-- Division toward zero by a power of two: a shift divides a number to which the mask was added where it is negative,
-- and what the mask leaves of that sum, less what was added, is the remainder.
use Rattle.std.proofs.Common.{◌≡◌, ℕ, zero, suc, ◌+◌, ◌-◌, ◌*◌, ◌/◌, ◌%◌, ◌^◌, ◌<◌, ◌≤◌, ◌⊎◌, inl, inr}
use Rattle.std.proofs.Common.{ℤ, pos, negsuc, refl, sym, ap, ◌∙◌, arith}
use Rattle.std.specs.Prelude.{neg_ℤ, int_div, FitsSigned}
use Rattle.std.specs.Int.{w64, cast_signed, cast_unsigned, int_shr}
use Rattle.std.proofs.lemmas.Int.{ints, to_z-of_z}
use Rattle.std.proofs.lemmas.Nat.{div-mul-add, mod-mul-add, div_below}
use native.Mathlib.Nat.{div-eq_of_lt, div-eq-sub-div, mod-eq_of_lt, mod-lt, div-add-mod', add-mul, suc-mul, zero-mul}
use native.Mathlib.Nat.{zero-div, div-le_self}
use lib.Signed.{shr_z}
use Rattle.c_constant.proofs.Conversions.{order}

abbrev signed : ℕ → ℤ
signed a = cast_signed w64 a

abbrev word : ℤ → ℕ
word z = cast_unsigned w64 z

-- SIGNS

-- A word below 2^63 stands for itself.
pub natural : (a : ℕ) → a < 2 ^ 63 → signed a ≡ pos a
natural a l = omega (arith, ints)

negative : (a m : ℕ) → a + suc m ≡ 2 ^ 64 → m < 2 ^ 63 → signed a ≡ negsuc m
negative a m e l =
    let f : FitsSigned w64 (negsuc m) = omega (arith, ints) in
    let w : a ≡ 2 ^ 64 - suc m = omega arith in
    ap (λ (n : ℕ). cast_signed w64 n) w ∙ to_z-of_z w64 (negsuc m) f

-- What is added to a word before its shift, where p is the mask: p if the word stands for a negative number, else 0.
abbrev pub IsBias : ℕ → ℕ → ℕ → Type 0
IsBias p a t = ((a < 2 ^ 63) × (t ≡ 0)) ⊎ ((2 ^ 63 ≤ a) × (t ≡ p))

-- the first bits of a word are all set, of which there are p + 1 patterns, with q of the others
high : (p q a : ℕ) → suc p * q ≡ 2 ^ 64 → a < 2 ^ 64 → 2 ^ 64 ≤ a + q → a / q ≡ p
high p q a e l h =
    let s : suc p * q ≡ p * q + q = suc-mul p q in
    let d : a ≡ p * q + (a - p * q) = omega arith in
    let lt : a - p * q < q = omega arith in
    ap (λ (x : ℕ). x / q) d ∙ div-mul-add p q (a - p * q) lt

-- The bias is the first bits of a word, where these are its sign alone.
pub first_bits : (p q a : ℕ) → suc p * q ≡ 2 ^ 64 → a < 2 ^ 64
    → ((a < 2 ^ 63) × (a < q)) ⊎ ((2 ^ 63 ≤ a) × (2 ^ 64 ≤ a + q)) → IsBias p a (a / q)
first_bits p q a e l (inl h) = inl (h.0, div-eq_of_lt h.1)
first_bits p q a e l (inr h) = inr (h.0, high p q a e l h.1)

-- a shift by 63 makes each bit the sign
spread : (a : ℕ) → a < 2 ^ 64 → IsBias (2 ^ 64 - 1) a (word (int_shr (signed a) 63))
spread a l = go (order a (2 ^ 63))
  where
    go : (a < 2 ^ 63) ⊎ (2 ^ 63 ≤ a) → IsBias (2 ^ 64 - 1) a (word (int_shr (signed a) 63))
    go (inl h) = inl (h, ap (λ (z : ℤ). word (int_shr z 63)) (natural a h) ∙ div-eq_of_lt h)
    go (inr h) =
        let m = 2 ^ 64 - 1 - a in
        let lt : m < 2 ^ 63 = omega arith in
        let e : a + suc m ≡ 2 ^ 64 = omega arith in
        inr (
          h,
          ap (λ (z : ℤ). word (int_shr z 63)) (negative a m e lt)
              ∙ ap (λ (c : ℕ). 2 ^ 64 - suc c) (div-eq_of_lt lt),
        )

-- The bias is the first bits of a word whose bits were all made its sign.
pub spread_bits : (p q a : ℕ) → suc p * q ≡ 2 ^ 64 → 0 < q → a < 2 ^ 64
    → IsBias p a (word (int_shr (signed a) 63) / q)
spread_bits p q a e some l = go (spread a l)
  where
    go : IsBias (2 ^ 64 - 1) a (word (int_shr (signed a) 63)) → IsBias p a (word (int_shr (signed a) 63) / q)
    go (inl h) = inl (h.0, ap (λ (x : ℕ). x / q) h.1 ∙ zero-div q)
    go (inr h) = inr (h.0, ap (λ (x : ℕ). x / q) h.1 ∙ high p q (2 ^ 64 - 1) e (omega arith) (omega arith))

-- QUOTIENTS

-- a divisor goes into a greater number once more than into what is left without it
once_more : (p m : ℕ) → p ≤ m → suc m / suc p ≡ suc ((m - p) / suc p)
once_more p m h =
    let some : 0 < suc p = omega arith in
    let le : suc p ≤ suc m = omega arith in
    let d : suc m - suc p ≡ m - p = omega arith in
    let e : suc m / suc p ≡ (suc m - suc p) / suc p + 1 = div-eq-sub-div some le in
    e ∙ ap (λ (x : ℕ). x / suc p + 1) d ∙ omega arith

module _ (p a t : ℕ) (small : p < 2 ^ 62) (l : a < 2 ^ 64) where
  abbrev shifted : ℕ
  shifted = word (shr_z (signed ((a + t) % 2 ^ 64)) (suc p))

  abbrev quotient : ℕ
  quotient = word (int_div (signed a) (pos (suc p)))

  shifted_by : (v : ℕ) (z : ℤ) → (a + t) % 2 ^ 64 ≡ v → signed v ≡ z → shifted ≡ word (shr_z z (suc p))
  shifted_by v z e s = ap (λ (v : ℕ). word (shr_z (signed v) (suc p))) e ∙ ap (λ (z : ℤ). word (shr_z z (suc p))) s

  quotient_by : (z : ℤ) → signed a ≡ z → quotient ≡ word (int_div z (pos (suc p)))
  quotient_by z s = ap (λ (z : ℤ). word (int_div z (pos (suc p)))) s

  negative_quotient : (m : ℕ) → a + suc m ≡ 2 ^ 64 → m < 2 ^ 63 → t ≡ p → (m < p) ⊎ (p ≤ m) → shifted ≡ quotient
  negative_quotient m e lt h (inl k) =
      let near : p - suc m < 2 ^ 63 = omega arith in
      let none : p - suc m < suc p = omega arith in
      let less : suc m < suc p = omega arith in
      shifted_by (p - suc m) (pos (p - suc m)) (omega arith) (natural (p - suc m) near)
      ∙ div-eq_of_lt none
      ∙ sym (quotient_by (negsuc m) (negative a m e lt)
      ∙ ap (λ (c : ℕ). word (neg_ℤ (pos c))) (div-eq_of_lt less))
  negative_quotient m e lt h (inr k) =
      let v = 2 ^ 64 - suc (m - p) in
      shifted_by v (negsuc (m - p)) (omega arith) (negative v (m - p) (omega arith) (omega arith))
      ∙ sym (quotient_by (negsuc m) (negative a m e lt)
      ∙ ap (λ (c : ℕ). word (neg_ℤ (pos c))) (once_more p m k))

  -- A shift of a word and its bias divides toward zero.
  pub shift_rounds : IsBias p a t → shifted ≡ quotient
  shift_rounds (inl h) =
      let none = h.1 in
      shifted_by a (pos a) (omega arith) (natural a h.0) ∙ sym (quotient_by (pos a) (natural a h.0))
  shift_rounds (inr h) =
      let some = h.0 in
      let m = 2 ^ 64 - 1 - a in
      negative_quotient m (omega arith) (omega arith) h.1 (order m p)

-- REMAINDERS

same_rest : (a y r t : ℕ) → y + r ≡ a → t ≡ 0 → a < 2 ^ 64
    → (r + (2 ^ 64 - t)) % 2 ^ 64 ≡ (a + (2 ^ 64 - y % 2 ^ 64)) % 2 ^ 64
same_rest a y r t e z l = omega arith

same_negative : (a m y r p t : ℕ) → y + r ≡ suc m → a + suc m ≡ 2 ^ 64 → r ≤ p → p < 2 ^ 62 → t ≡ p
    → (p - r + (2 ^ 64 - t)) % 2 ^ 64 ≡ (a + (2 ^ 64 - (2 ^ 64 - y) % 2 ^ 64)) % 2 ^ 64
same_negative a m y r p t e f h k z = omega arith

by_rest : (x y u : ℕ) → x + y ≡ 2 ^ 64 * u → 0 < u → y ≤ 2 ^ 64 → x % 2 ^ 64 ≡ (2 ^ 64 - y) % 2 ^ 64
by_rest x y u e h l = omega arith

-- the word of a negative number times another
turned : (q u : ℕ) → q ≤ 2 ^ 63 → q * u ≤ 2 ^ 64 → 0 < u
    → (word (neg_ℤ (pos q)) * u) % 2 ^ 64 ≡ (2 ^ 64 - q * u) % 2 ^ 64
turned zero u l h some =
    let z = zero-mul u in
    ap (λ (x : ℕ). x % 2 ^ 64) z ∙ ap (λ (x : ℕ). (2 ^ 64 - x) % 2 ^ 64) (sym z)
turned (suc q) u l h some =
    let w = 2 ^ 64 - suc q in
    let e : w + suc q ≡ 2 ^ 64 = omega arith in
    by_rest (w * u) (suc q * u) u (sym (add-mul w (suc q) u) ∙ ap (λ (x : ℕ). x * u) e) some h

sum_is : (a t p m x y r : ℕ) → a + suc m ≡ 2 ^ 64 → t ≡ p → p ≤ m → x + y ≡ 2 ^ 64 → y + r ≡ suc m → r ≤ p
    → (a + t) % 2 ^ 64 ≡ x + (p - r)
sum_is a t p m x y r e f h s d l = omega arith

module _ (p u a t : ℕ) (e : u * suc p ≡ 2 ^ 64) (small : p < 2 ^ 62) (l : a < 2 ^ 64) where
  -- the low bits of a negative number and its bias
  low_bits : (m : ℕ) → a + suc m ≡ 2 ^ 64 → m < 2 ^ 63 → t ≡ p → (m < p) ⊎ (p ≤ m)
      → ((a + t) % 2 ^ 64) % suc p ≡ p - suc m % suc p
  low_bits m f lt h (inl k) =
      let none : p - suc m < suc p = omega arith in
      let less : suc m < suc p = omega arith in
      let v : (a + t) % 2 ^ 64 ≡ p - suc m = omega arith in
      ap (λ (v : ℕ). v % suc p) v ∙ mod-eq_of_lt none ∙ ap (λ (r : ℕ). p - r) (sym (mod-eq_of_lt less))
  low_bits m f lt h (inr k) =
      let q = suc m / suc p in
      let r = suc m % suc p in
      let some : 0 < suc p = omega arith in
      let below : suc m < u * suc p = omega (arith, e) in
      let fits : q < u = div_below (suc m) (suc p) u some below in
      let rest : r < suc p = mod-lt (suc m) some in
      let d = u - q in
      let whole : d + q ≡ u = omega arith in
      let s : d * suc p + q * suc p ≡ 2 ^ 64 = sym (add-mul d q (suc p)) ∙ ap (λ (x : ℕ). x * suc p) whole ∙ e in
      let v = sum_is a t p m (d * suc p) (q * suc p) r f h k s (div-add-mod' (suc m) (suc p)) (omega arith) in
      ap (λ (v : ℕ). v % suc p) v ∙ mod-mul-add d (suc p) (p - r) (omega arith)

  -- What the mask leaves of a word and its bias, less the bias, is what the quotient leaves.
  pub mask_rounds : IsBias p a t → (((a + t) % 2 ^ 64) % suc p + (2 ^ 64 - t)) % 2 ^ 64
      ≡ (a + (2 ^ 64 - (quotient p a t small l * suc p) % 2 ^ 64)) % 2 ^ 64
  mask_rounds (inl h) =
      let none = h.1 in
      let v : (a + t) % 2 ^ 64 ≡ a = omega arith in
      ap (λ (v : ℕ). (v % suc p + (2 ^ 64 - t)) % 2 ^ 64) v
      ∙ same_rest a (a / suc p * suc p) (a % suc p) t (div-add-mod' a (suc p)) h.1 l
      ∙ ap (λ (w : ℕ). (a + (2 ^ 64 - (w * suc p) % 2 ^ 64)) % 2 ^ 64)
      (sym (quotient_by p a t small l (pos a) (natural a h.0)))
  mask_rounds (inr h) =
      let some = h.0 in
      let m = 2 ^ 64 - 1 - a in
      let f : a + suc m ≡ 2 ^ 64 = omega arith in
      let lt : m < 2 ^ 63 = omega arith in
      let q = suc m / suc p in
      let r = suc m % suc p in
      let d : q * suc p + r ≡ suc m = div-add-mod' (suc m) (suc p) in
      let more : 0 < suc p = omega arith in
      let rest : r < suc p = mod-lt (suc m) more in
      let few : q ≤ suc m = div-le_self (suc m) (suc p) in
      ap (λ (v : ℕ). (v + (2 ^ 64 - t)) % 2 ^ 64) (low_bits m f lt h.1 (order m p))
      ∙ same_negative a m (q * suc p) r p t d f (omega arith) small h.1
      ∙ ap (λ (w : ℕ). (a + (2 ^ 64 - w)) % 2 ^ 64)
      (sym (turned q (suc p) (omega arith) (omega arith) more))
      ∙ ap (λ (w : ℕ). (a + (2 ^ 64 - (w * suc p) % 2 ^ 64)) % 2 ^ 64)
      (sym (quotient_by p a t small l (negsuc m) (negative a m f lt)))
