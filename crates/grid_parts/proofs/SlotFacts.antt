-- The lowest marked slot of a tile, by the mask of its slots.
use Rattle.std.proofs.Common.{◌≡◌, ◌≢◌, ℕ, zero, suc, ◌+◌, ◌-◌, ◌/◌, ◌%◌, ◌^◌, ◌<◌, ◌≤◌, Bool, true, false, cond}
use Rattle.std.proofs.Common.{◌==◌, ◌⊎◌, inl, inr, min, Some, None, refl, sym, ap, ◌∙◌, subst, arith, bit_and}
use Rattle.std.proofs.lemmas.Bool.{agree_below_at, eqb-true, eq-eqb, ne_eqb, cases_lt, cases_eq, and_from, and_left}
use Rattle.std.proofs.lemmas.Bool.{and_right}
use Rattle.std.proofs.lemmas.Nat.{pow-add, and_le_r}
use Rattle.std.proofs.lemmas.Nat.Bits.{bit_at_and, bit_at-zero, bit_at-lt, bit_at-trailing_zeros, bit_at_above}
use Rattle.std.proofs.Math.Nat.{div-div-eq-div-mul}
use Rattle.std.specs.Int.{bit_at, trailing_zeros, w128}
use Rattle.operand_net.specs.Marks.{has_bit}
use Rattle.grid_cycle_spec.specs.Choosing.{least, slots}
use Rattle.grid_parts.specs.inside.EldestChoices.{is_on, lowest_slot}

-- the least number ---------------------------------------------------------------------------------

-- the least number is the first that passes
pub least_is : (test : ℕ → Bool) (n k r : ℕ) → k ≤ r → r < k + n → test r ≡ true
    → ((i : ℕ) → k ≤ i → i < r → test i ≡ false) → least test n k ≡ Some r
least_is test zero k r from below here none = absurd (omega arith)
least_is test (suc n) k r from below here none = go (cases_eq k r)
    (λ ne. least_is test n (suc k) r (omega (arith, ne)) (omega arith) here (λ i l m. none i (omega arith) m))
  where
    go : (k ≡ r) ⊎ (k ≢ r) → (k ≢ r → least test n (suc k) ≡ Some r)
        → cond (test k) (Some k) (least test n (suc k)) ≡ Some r
    go (inl e) behind = ap (λ b. cond b (Some k) (least test n (suc k))) (ap test e ∙ here) ∙ ap Some e
    go (inr ne) behind =
        let l : k < r = omega (arith, ne) in
        ap (λ b. cond b (Some k) (least test n (suc k))) (none k (omega arith) l) ∙ behind ne

-- where none passes there is no least number
pub least_none : (test : ℕ → Bool) (n k : ℕ) → ((i : ℕ) → k ≤ i → i < k + n → test i ≡ false) → least test n k ≡ None
least_none test zero k none = refl
least_none test (suc n) k none =
    ap (λ b. cond b (Some k) (least test n (suc k))) (none k (omega arith) (omega arith))
    ∙ least_none test n (suc k) (λ i l m. none i (omega arith) (omega arith))

-- the mask -----------------------------------------------------------------------------------------

-- a bit for each slot of tile 0
unfoldable pub every_16 : ℕ
every_16 = 5192376087906286159508272029171713

every_16_at : (i : ℕ) → i < 128 → (bit_at every_16 i == 1) ≡ (i % 16 == 0)
unfolding every_16
every_16_at i l = agree_below_at (λ i. bit_at every_16 i == 1) (λ i. i % 16 == 0) 128 i refl l

shift_at : (n t i : ℕ) → bit_at (n / 2 ^ t) i ≡ bit_at n (t + i)
shift_at n t i = ap (λ k. k % 2) (div-div-eq-div-mul n (2 ^ t) (2 ^ i) ∙ ap (λ k. n / k) (sym (pow-add 2 t i)))

slots_are : slots ≡ 128
unfolding slots
slots_are = refl

module _ (n t : ℕ) (lt : t < 16) where
  row_at : (i : ℕ) → bit_at (bit_and (n / 2 ^ t) every_16) i ≡ min (bit_at n (t + i)) (bit_at every_16 i)
  row_at i = bit_at_and (n / 2 ^ t) every_16 i ∙ ap (λ k. min k (bit_at every_16 i)) (shift_at n t i)

  -- a slot of the tile that the row lacks
  lacks : (r : ℕ) → r < 128 → r % 16 ≡ t → bit_at (bit_and (n / 2 ^ t) every_16) (r - t) ≡ 0 → bit_at n r ≡ 0
  lacks r l e z =
      let i : t + (r - t) ≡ r = omega arith in
      let m : (r - t) % 16 ≡ 0 = omega arith in
      let k : r - t < 128 = omega arith in
      let one : bit_at every_16 (r - t) ≡ 1 = eqb-true _ _ (every_16_at (r - t) k ∙ eq-eqb _ _ m) in
      let both : min (bit_at n (t + (r - t))) (bit_at every_16 (r - t)) ≡ 0 = sym (row_at (r - t)) ∙ z in
      let got : bit_at n (t + (r - t)) ≡ 0 = small (bit_at n (t + (r - t))) (bit_at every_16 (r - t)) one both in
      subst (λ k. bit_at n k ≡ 0) i got
    where
      small : (x y : ℕ) → y ≡ 1 → min x y ≡ 0 → x ≡ 0
      small x y e z = omega arith

  -- a slot below r that is not marked where it lies on the tile
  not_on : (r : ℕ) → (r % 16 ≡ t → bit_at n r ≡ 0) → is_on n t r ≡ false
  not_on r h = go (cases_eq (r % 16) t)
    where
      go : (r % 16 ≡ t) ⊎ (r % 16 ≢ t) → is_on n t r ≡ false
      go (inl e) = and_right (r % 16 == t) (has_bit n r) (ap (λ z. z == 1) (h e))
      go (inr ne) = and_left (r % 16 == t) (has_bit n r) (ne_eqb (r % 16) t ne)

  -- where the mask of a tile's slots is 0, the tile has no marked slot
  pub none_on : bit_and (n / 2 ^ t) every_16 ≡ 0 → lowest_slot n t ≡ None
  none_on z = least_none (is_on n t) slots 0
      (λ i l m. let few = slots_are in
      not_on i (λ e. lacks i (omega (arith, few)) e (ap (λ k. bit_at k (i - t)) z ∙ bit_at-zero (i - t))))

  -- the lowest marked slot of a tile is told by the trailing zeros of the mask of its slots
  pub first_on : n < 2 ^ 128 → bit_and (n / 2 ^ t) every_16 ≢ 0 → bit_and (n / 2 ^ t) every_16 < 2 ^ 128
      → (lowest_slot n t ≡ Some (t + trailing_zeros w128 (bit_and (n / 2 ^ t) every_16)))
      × (t + trailing_zeros w128 (bit_and (n / 2 ^ t) every_16) < 128)
  first_on fits some below = go (trailing_zeros w128 (bit_and (n / 2 ^ t) every_16))
      (bit_at-trailing_zeros w128 (bit_and (n / 2 ^ t) every_16) (pos (bit_and (n / 2 ^ t) every_16) some) below)
    where
      pos : (k : ℕ) → k ≢ 0 → 0 < k
      pos zero h = absurd (h refl)
      pos (suc k) h = omega arith

      split : (x y : ℕ) → x < 2 → y < 2 → min x y ≡ 1 → (x ≡ 1) × (y ≡ 1)
      split x y a b e = (omega arith, omega arith)

      inside : (s : ℕ) → bit_at n s ≡ 1 → (s < 128) ⊎ (128 ≤ s) → s < 128
      inside s e (inl l) = l
      inside s e (inr l) = absurd (let z : bit_at n s ≡ 0 = bit_at_above n 128 s fits l in cc)

      go : (z : ℕ) → (z < 128) × (bit_at (bit_and (n / 2 ^ t) every_16) z ≡ 1)
          × ((i : ℕ) → i < z → bit_at (bit_and (n / 2 ^ t) every_16) i ≡ 0)
          → (lowest_slot n t ≡ Some (t + z)) × (t + z < 128)
      go z h =
          let l : z < 128 = h.0 in
          let p : (bit_at n (t + z) ≡ 1) × (bit_at every_16 z ≡ 1) = split (bit_at n (t + z)) (bit_at every_16 z)
          (bit_at-lt n (t + z)) (bit_at-lt every_16 z) (sym (row_at z) ∙ h.1) in
          let m : z % 16 ≡ 0 = eqb-true _ _ (sym (every_16_at z l) ∙ eq-eqb _ _ p.1) in
          let s : t + z < 128 = inside (t + z) p.0 (cases_lt (t + z) 128) in
          let on : (t + z) % 16 ≡ t = omega arith in
          let few = slots_are in (
            least_is (is_on n t) slots 0 (t + z) (omega arith) (omega (arith, few))
                (and_from ((t + z) % 16 == t) (has_bit n (t + z)) (eq-eqb ((t + z) % 16) t on) (ap (λ z. z == 1) p.0))
                (λ i k b. not_on i (λ e. lacks i (omega arith) e (h.2 (i - t) (omega arith)))),
            s,
          )

-- the mask of a tile's slots has 128 bits
pub row_below : (n t : ℕ) → bit_and (n / 2 ^ t) every_16 < 2 ^ 128
unfolding every_16
row_below n t = let a : bit_and (n / 2 ^ t) every_16 ≤ every_16 = and_le_r (n / 2 ^ t) every_16 in omega (arith, a)
