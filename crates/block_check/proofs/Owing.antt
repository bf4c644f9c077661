-- The marks of declared writes and of the numbers of the mask, one by one.
use Rattle.std.proofs.Common.{◌≡◌, ℕ, zero, suc, ◌+◌, ◌-◌, ◌<◌, ◌≤◌, Bool, true, false, ◌&&◌, ◌||◌}
use Rattle.std.proofs.Common.{◌==◌, nat_le, nat_lt, List, [], ◌∷◌, length, slice_set, refl, sym, ap}
use Rattle.std.proofs.Common.{◌∙◌, arith}
use Rattle.block_cases.specs.Cases.{bit}

bit_set_here : (l : List Bool) (x : ℕ) (v : Bool) → x < length l → bit (slice_set l x v) x ≡ v
bit_set_here [] x v h = absurd (omega arith)
bit_set_here (b ∷ l) zero v h = refl
bit_set_here (b ∷ l) (suc x) v h = bit_set_here l x v (omega arith)

bit_set_there : (l : List Bool) (x y : ℕ) (v : Bool) → (y ≡ x → ⊥) →
    bit (slice_set l x v) y ≡ bit l y
bit_set_there [] x y v h = refl
bit_set_there (b ∷ l) zero zero v h = absurd (h refl)
bit_set_there (b ∷ l) zero (suc y) v h = refl
bit_set_there (b ∷ l) (suc x) zero v h = refl
bit_set_there (b ∷ l) (suc x) (suc y) v h = bit_set_there l x y v (λ e. h (ap suc e))

eq_is : (a b : ℕ) → (a == b) ≡ true → a ≡ b
eq_is a b e = grind arith

eq_not : (a b : ℕ) → (a == b) ≡ false → a ≡ b → ⊥
eq_not a b e i = grind arith

le_true : (a b : ℕ) → a ≤ b → nat_le a b ≡ true
le_true a b h = grind arith

lt_true : (a b : ℕ) → a < b → nat_lt a b ≡ true
lt_true a b h = grind arith

lt_false : (a b : ℕ) → b ≤ a → nat_lt a b ≡ false
lt_false a b h = grind arith

-- away from its end a bound may rise by one
lt_more : (q n : ℕ) → (q ≡ n → ⊥) → nat_lt q n ≡ nat_lt q (n + 1)
lt_more q n h = go (nat_lt q n) refl
  where
    go : (b : Bool) → nat_lt q n ≡ b → b ≡ nat_lt q (n + 1)
    go true e = sym (lt_true q (n + 1) (let l : q < n = grind arith in omega arith))
    go false e = sym (lt_false q (n + 1) (let l : n ≤ q = grind arith in above q n l h))
      where
        above : (q n : ℕ) → n ≤ q → (q ≡ n → ⊥) → n + 1 ≤ q
        above q n l h = by (nat_le (n + 1) q) refl
          where
            by : (b : Bool) → nat_le (n + 1) q ≡ b → n + 1 ≤ q
            by true e = grind arith
            by false e = absurd (h (let m : q < n + 1 = grind arith in omega arith))

-- with one declared write more marked, exactly the declared writes so far are marked
pub write_marked : (l l' : List Bool) (w q : ℕ) → length l ≡ 449 → 384 + w < 449 →
    l' ≡ slice_set l (384 + w) true → bit l q ≡ (nat_le 384 q && nat_lt q (384 + w)) →
    bit l' q ≡ (nat_le 384 q && nat_lt q (384 + (w + 1)))
write_marked l l' w q size lt e h = ap (λ k. bit k q) e ∙ go (q == 384 + w) refl
  where
    next : 384 + w + 1 ≡ 384 + (w + 1)
    next = omega arith

    go : (b : Bool) → (q == 384 + w) ≡ b → bit (slice_set l (384 + w) true) q ≡ (nat_le 384 q
        && nat_lt q (384 + (w + 1)))
    go true i =
        let same : q ≡ 384 + w = eq_is q (384 + w) i in
        ap (bit (slice_set l (384 + w) true)) same ∙ bit_set_here l (384 + w) true (omega arith)
        ∙ sym (ap (λ v. v && nat_lt q (384 + (w + 1))) (le_true 384 q (omega arith))
        ∙ lt_true q (384 + (w + 1)) (omega arith))
    go false i =
        bit_set_there l (384 + w) q true (eq_not q (384 + w) i) ∙ h
        ∙ ap (λ v. nat_le 384 q && v) (lt_more q (384 + w) (eq_not q (384 + w) i)
        ∙ ap (nat_lt q) next)

-- with one number of the mask more marked, exactly the numbers of the mask so far are marked
pub number_marked : (l l' : List Bool) (n q : ℕ) (v : Bool) (writes : Bool) (mask : ℕ → Bool) →
    length l ≡ 449 → 416 + n < 449 → l' ≡ slice_set l (416 + n) v → v ≡ mask n → (q ≡ 416 + n →
    writes ≡ false) →
    bit l q ≡ (writes || (nat_le 416 q && (nat_lt q (416 + n) && mask (q - 416)))) →
    bit l' q ≡ (writes || (nat_le 416 q && (nat_lt q (416 + (n + 1)) && mask (q - 416))))
number_marked l l' n q v writes mask size lt e is low h = ap (λ k. bit k q) e
    ∙ go (q == 416 + n) refl
  where
    next : 416 + n + 1 ≡ 416 + (n + 1)
    next = omega arith

    go : (b : Bool) → (q == 416 + n) ≡ b → bit (slice_set l (416 + n) v) q ≡ (writes
        || (nat_le 416 q && (nat_lt q (416 + (n + 1)) && mask (q - 416))))
    go true i =
        let same : q ≡ 416 + n = eq_is q (416 + n) i in
        let back : q - 416 ≡ n = omega arith in
        ap (bit (slice_set l (416 + n) v)) same ∙ bit_set_here l (416 + n) v (omega arith) ∙ is
        ∙ sym (ap (λ b. b || (nat_le 416 q && (nat_lt q (416 + (n + 1))
        && mask (q - 416)))) (low same)
        ∙ ap (λ b. b && (nat_lt q (416 + (n + 1))
        && mask (q - 416))) (le_true 416 q (omega arith))
        ∙ ap (λ b. b && mask (q - 416)) (lt_true q (416 + (n + 1)) (omega arith))
        ∙ ap mask back)
    go false i =
        bit_set_there l (416 + n) q v (eq_not q (416 + n) i) ∙ h
        ∙ ap (λ b. writes || (nat_le 416 q && (b && mask (q - 416)))) (lt_more q (416 + n) (eq_not
        q (416 + n) i) ∙ ap (nat_lt q) next)

-- a write is no number
pub write_low : (q n len : ℕ) → len ≤ 32 → q ≡ 416 + n →
    (nat_le 384 q && nat_lt q (384 + len)) ≡ false
write_low q n len few e = ap (λ b. nat_le 384 q && b) (lt_false q (384 + len) (omega arith))
    ∙ none (nat_le 384 q)
  where
    none : (b : Bool) → (b && false) ≡ false
    none true = refl
    none false = refl

-- at the start and at the end
pub no_write : (q : ℕ) → (nat_le 384 q && nat_lt q (384 + 0)) ≡ false
no_write q = go (nat_le 384 q) refl
  where
    go : (b : Bool) → nat_le 384 q ≡ b → (b && nat_lt q (384 + 0)) ≡ false
    go true e = lt_false q (384 + 0) (let l : 384 ≤ q = grind arith in omega arith)
    go false e = refl

-- before the first number nothing is added to the marks of the writes
pub no_number : (q : ℕ) (writes : Bool) (mask : Bool) → writes ≡ (writes || (nat_le 416 q
    && (nat_lt q (416 + 0) && mask)))
no_number q true mask = refl
no_number q false mask = sym (go (nat_le 416 q) refl)
  where
    go : (b : Bool) → nat_le 416 q ≡ b → (b && (nat_lt q (416 + 0) && mask)) ≡ false
    go true e = ap (λ v. v && mask) (lt_false q (416 + 0) (let l : 416 ≤ q = grind arith in
        omega arith))
    go false e = refl
