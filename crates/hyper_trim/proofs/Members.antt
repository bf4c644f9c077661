-- Sets of registers as numbers: unions, differences and operands.
use Rattle.std.proofs.Common.{◌≡◌, ℕ, zero, suc, ◌+◌, ◌<◌, ◌%◌, ◌^◌, min, max, Bool, true}
use Rattle.std.proofs.Common.{false, cond, not, ◌&&◌, ◌||◌}
use Rattle.std.proofs.Common.{bit_and, bit_or, refl, sym, ap, ap₂, ◌∙◌}
use Rattle.std.proofs.Common.{nat_eq, nat_lt, arith, inl, inr, eq-eqb, ne_eqb}
use Rattle.std.specs.Int.{bit_at}
use Rattle.std.proofs.lemmas.Bool.{cases_eq}
use Rattle.std.proofs.lemmas.Nat.Bits.{shr_and_one, bit_at_and, bit_at_or, bit_at_xor, bit_at-lt}
use Rattle.std.proofs.lemmas.Nat.Bits.{bit_at-pow_same, bit_at-pow_other, bit_at-zero}
use Rattle.hyper_trim.specs.inside.Sets.{seen, bit, without, matters, Within}

-- one of two by the first
pub or_left : (a b : Bool) → a ≡ true → a || b ≡ true
or_left true b e = refl
or_left false b e = (let bad : false ≡ true = e in cc)

-- and by the second
pub or_right : (a b : Bool) → b ≡ true → a || b ≡ true
or_right true b e = refl
or_right false b e = e

-- one of two is the first or the second
pub or_cases : {P : Type 0} (a b : Bool) → a || b ≡ true → (a ≡ true → P) → (b ≡ true → P) → P
or_cases true b e f g = f refl
or_cases false b e f g = g e

is_bit : (n v : ℕ) → seen n v ≡ nat_eq (bit_at n v) 1
is_bit n v = ap (λ x. nat_eq x 1) (shr_and_one n v)

or_bits : (x y : ℕ) → x < 2 → y < 2 → nat_eq (max x y) 1 ≡ nat_eq x 1 || nat_eq y 1
or_bits zero zero p q = refl
or_bits zero (suc zero) p q = refl
or_bits (suc zero) zero p q = refl
or_bits (suc zero) (suc zero) p q = refl
or_bits zero (suc (suc y)) p q = absurd (omega arith)
or_bits (suc zero) (suc (suc y)) p q = absurd (omega arith)
or_bits (suc (suc x)) y p q = absurd (omega arith)

less_bits : (x y : ℕ) → x < 2 → y < 2
    → nat_eq ((x + min x y) % 2) 1 ≡ nat_eq x 1 && not (nat_eq y 1)
less_bits zero zero p q = refl
less_bits zero (suc zero) p q = refl
less_bits (suc zero) zero p q = refl
less_bits (suc zero) (suc zero) p q = refl
less_bits zero (suc (suc y)) p q = absurd (omega arith)
less_bits (suc zero) (suc (suc y)) p q = absurd (omega arith)
less_bits (suc (suc x)) y p q = absurd (omega arith)

-- a union has the members of both
pub seen_or : (a b v : ℕ) → seen (bit_or a b) v ≡ seen a v || seen b v
seen_or a b v =
    is_bit (bit_or a b) v ∙ ap (λ x. nat_eq x 1) (bit_at_or a b v)
    ∙ or_bits (bit_at a v) (bit_at b v) (bit_at-lt a v) (bit_at-lt b v)
    ∙ sym (ap₂ (λ x y. x || y) (is_bit a v) (is_bit b v))

-- a difference has those that are not of the second
pub seen_without : (a b v : ℕ) → seen (without a b) v ≡ seen a v && not (seen b v)
seen_without a b v =
    is_bit (without a b) v
    ∙ ap (λ x. nat_eq x 1) (bit_at_xor a (bit_and a b) v
    ∙ ap (λ x. (bit_at a v + x) % 2) (bit_at_and a b v))
    ∙ less_bits (bit_at a v) (bit_at b v) (bit_at-lt a v) (bit_at-lt b v)
    ∙ sym (ap₂ (λ x y. x && not y) (is_bit a v) (is_bit b v))

-- the empty set has none
pub seen_zero : (v : ℕ) → seen 0 v ≡ false
seen_zero v = is_bit 0 v ∙ ap (λ x. nat_eq x 1) (bit_at-zero v)

-- the set of one register has that alone
pub seen_bit : (k v : ℕ) → seen (bit k) v ≡ nat_lt k 128 && nat_eq v k
unfolding bit
seen_bit k v = each (nat_lt k 128)
  where
    each : (b : Bool) → seen (cond b (2 ^ k) 0) v ≡ b && nat_eq v k
    each true = is_bit (2 ^ k) v ∙ elim (cases_eq v k) [
      | inl same ↦ ap (λ x. nat_eq x 1) (ap (bit_at (2 ^ k)) same ∙ bit_at-pow_same k)
          ∙ sym (eq-eqb v k same)
      | inr other ↦ ap (λ x. nat_eq x 1) (bit_at-pow_other k v other) ∙ sym (ne_eqb v k other)
    ]
    each false = seen_zero v

-- PARTS OF A UNION

-- a set is within a union
pub in_left : (a b : ℕ) → Within a (bit_or a b)
in_left a b r e = seen_or a b r ∙ or_left (seen a r) (seen b r) e

-- so is the other
pub in_right : (a b : ℕ) → Within b (bit_or a b)
in_right a b r e = seen_or a b r ∙ or_right (seen a r) (seen b r) e

-- a difference is within the first
pub less_in : (a b : ℕ) → Within (without a b) a
less_in a b r e = go (seen a r) (seen b r) (sym (seen_without a b r) ∙ e)
  where
    go : (x y : Bool) → x && not y ≡ true → x ≡ true
    go true y e = refl
    go false y e = e

-- within goes on
pub then_in : (a b c : ℕ) → Within a b → Within b c → Within a c
then_in a b c f g r e = g r (f r e)

-- a set is within itself
pub in_itself : (a : ℕ) → Within a a
in_itself a r e = e

-- a is among a, b and c, and so on
pub first_of : (a b c : ℕ) → Within a (bit_or (bit_or a b) c)
first_of a b c = then_in a (bit_or a b) (bit_or (bit_or a b) c) (in_left a b) (in_left (bit_or a b) c)

-- the second of three
pub second_of : (a b c : ℕ) → Within b (bit_or (bit_or a b) c)
second_of a b c = then_in b (bit_or a b) (bit_or (bit_or a b) c) (in_right a b) (in_left (bit_or a b) c)

-- WHAT COUNTS

-- a register of a set that is alive counts
pub it_matters : (a r : ℕ) → Within (bit r) a → matters a r ≡ true
it_matters a r w = go (nat_lt r 128) refl
  where
    go : (c : Bool) → nat_lt r 128 ≡ c → matters a r ≡ true
    go true is =
        or_left (seen a r) (not (nat_lt r 128))
        (w r (seen_bit r r ∙ ap (λ c. c && nat_eq r r) is ∙ eq-eqb r r refl))
    go false is = or_right (seen a r) (not (nat_lt r 128)) (ap not is)

-- what counts in a set counts in a larger one
pub matters_in : (b a r : ℕ) → Within b a → matters b r ≡ true → matters a r ≡ true
matters_in b a r w e =
    or_cases (seen b r) (not (nat_lt r 128)) e
    (λ q. or_left (seen a r) (not (nat_lt r 128)) (w r q))
    (or_right (seen a r) (not (nat_lt r 128)))

-- a register that is not set counts before it if it does behind it
pub not_set : (n a to r : ℕ) → nat_eq r to ≡ false → Within (without n (bit to)) a
    → matters n r ≡ true → matters a r ≡ true
not_set n a to r other w e =
    or_cases (seen n r) (not (nat_lt r 128)) e
    (λ q. or_left (seen a r) (not (nat_lt r 128)) (w r (seen_without n (bit to) r
    ∙ ap (λ c. seen n r && not c) (seen_bit to r)
    ∙ spared (seen n r) (nat_lt to 128) (nat_eq r to) q other)))
    (or_right (seen a r) (not (nat_lt r 128)))
  where
    spared : (x y z : Bool) → x ≡ true → z ≡ false → x && not (y && z) ≡ true
    spared x true z p q = ap (λ x. x && not z) p ∙ ap not q
    spared x false z p q = ap (λ x. x && true) p

-- where nothing of the first is left without the second
pub no_more : (a b c : ℕ) → c ≡ without a b → c ≡ 0 → Within a b
no_more a b c e z r h = go (seen a r) (seen b r) h (sym (seen_without a b r)
    ∙ ap (λ (x : ℕ). seen x r) (sym e ∙ z) ∙ seen_zero r)
  where
    go : (x y : Bool) → x ≡ true → x && not y ≡ false → y ≡ true
    go true true p q = refl
    go true false p q = (let bad : true ≡ false = q in cc)
    go false y p q = absurd (let bad : false ≡ true = p in cc)
