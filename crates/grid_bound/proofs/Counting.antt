-- Some, the least, and sums.
use Rattle.std.proofs.Common.{◌≡◌, ℕ, zero, suc, ◌+◌, ◌<◌, ◌≤◌, Bool, true, false, cond, ◌==◌, ◌&&◌, ◌||◌, not, ◌⊎◌}
use Rattle.std.proofs.Common.{inl, inr, refl, sym, ap, ◌∙◌, subst, arith}
use Rattle.std.proofs.lemmas.Bool.{and_parts, or_cases, and_from, or_left, or_right, cases_Bool, eqb-true, eq-eqb}
use Rattle.std.proofs.lemmas.Bool.{cases_eq, not-true}
use Rattle.grid_bound.specs.inside.Course.{sum}
use Rattle.grid_bound.specs.inside.Lane.{any}
use Rattle.grid_bound.specs.inside.Sending.{found, pick}

-- where any number passes there is one
pub any_true : (n : ℕ) (p : ℕ → Bool) → any n p ≡ true → (x : ℕ) × (x < n) × (p x ≡ true)
any_true zero p e = absurd (cc)
any_true (suc n) p e = go (any_true n p) (or_cases (p n) (any n p) e)
  where
    go : (any n p ≡ true → (x : ℕ) × (x < n) × (p x ≡ true)) → (p n ≡ true) ⊎ (any n p ≡ true)
        → (x : ℕ) × (x < suc n) × (p x ≡ true)
    go ih (inl h) = (n, omega arith, h)
    go ih (inr h) = let r : (x : ℕ) × (x < n) × (p x ≡ true) = ih h in let l : r.0 < n = r.1 in
        (r.0, omega (arith, l), r.2)

-- a number that passes is one of any
pub any_from : (n : ℕ) (p : ℕ → Bool) (x : ℕ) → x < n → p x ≡ true → any n p ≡ true
any_from zero p x l e = absurd (omega arith)
any_from (suc n) p x l e = go (λ m. any_from n p x m e) (cases_eq x n)
  where
    go : (x < n → any n p ≡ true) → (x ≡ n) ⊎ (x ≡ n → ⊥) → (p n || any n p) ≡ true
    go ih (inl h) = or_left (p n) _ (subst (λ k. p k ≡ true) h e)
    go ih (inr h) = or_right (p n) _ (ih (omega arith))

-- where some number passes a test, and what passes it passes a second one, some number passes the second
pub any_more : (n : ℕ) (p q : ℕ → Bool) → ((x : ℕ) → x < n → p x ≡ true → q x ≡ true) → any n p ≡ true
    → any n q ≡ true
any_more n p q h e = let r : (x : ℕ) × (x < n) × (p x ≡ true) = any_true n p e in any_from n q r.0 r.1 (h r.0 r.1 r.2)

pub any_least : (n : ℕ) (p : ℕ → Bool) → any n p ≡ true → (x : ℕ) × (x < n) × (p x ≡ true) × (any x p ≡ false)
any_least zero p e = absurd (cc)
any_least (suc n) p e = go (any_least n p) (cases_Bool (any n p))
  where
    go : (any n p ≡ true → (x : ℕ) × (x < n) × (p x ≡ true) × (any x p ≡ false))
        → (any n p ≡ true) ⊎ (any n p ≡ false) → (x : ℕ) × (x < suc n) × (p x ≡ true) × (any x p ≡ false)
    go ih (inl h) = let r : (x : ℕ) × (x < n) × (p x ≡ true) × (any x p ≡ false) = ih h in let l : r.0 < n = r.1 in
        (r.0, omega (arith, l), r.2, r.3)
    go ih (inr h) = (n, omega arith, now (or_cases (p n) (any n p) e), h)
      where
        now : (p n ≡ true) ⊎ (any n p ≡ true) → p n ≡ true
        now (inl k) = k
        now (inr k) = absurd (cc)

-- where something may act and its station is free, something at that station is chosen
pub chosen : (n : ℕ) (may : ℕ → Bool) (station : ℕ → ℕ) (taken : ℕ → Bool) (x : ℕ) → x < n → may x ≡ true
    → taken (station x) ≡ false →
    (y : ℕ) × (y < n) × (station y ≡ station x) × (pick may station taken y ≡ true)
chosen n may station taken x l e k = (
  r.0,
  below,
  same,
  and_from (may r.0) _ both.0
      (and_from (not (taken (station r.0))) _ (free _ (ap taken same ∙ k))
      (free _ (subst (λ s. any r.0 (λ z. may z && station z == s) ≡ false) (sym same) r.3))),
)
  where
    q : ℕ → Bool
    q y = may y && station y == station x

    r : (y : ℕ) × (y < suc x) × (q y ≡ true) × (any y q ≡ false)
    r = any_least (suc x) q
        (any_from (suc x) q x (omega arith) (and_from (may x) _ e (eq-eqb (station x) (station x) refl)))

    below : r.0 < n
    below = let h : r.0 < suc x = r.1 in omega (arith, h)

    both : (may r.0 ≡ true) × ((station r.0 == station x) ≡ true)
    both = and_parts (may r.0) (station r.0 == station x) r.2

    same : station r.0 ≡ station x
    same = eqb-true (station r.0) (station x) both.1

    free : (b : Bool) → b ≡ false → not b ≡ true
    free true h = absurd (cc)
    free false h = refl

-- what is chosen may act, and no older frame takes its station
pub pick_may : (may : ℕ → Bool) (station : ℕ → ℕ) (taken : ℕ → Bool) (x : ℕ) → pick may station taken x ≡ true
    → may x ≡ true
pick_may may station taken x e = (and_parts (may x) _ e).0

-- what is chosen has a station that is not busy
pub pick_free : (may : ℕ → Bool) (station : ℕ → ℕ) (taken : ℕ → Bool) (x : ℕ) → pick may station taken x ≡ true
    → taken (station x) ≡ false
pick_free may station taken x e = not-true _ (and_parts (not (taken (station x))) _ (and_parts (may x) _ e).1).0

-- a sum whose terms are at most those of another is at most the other
pub sum_le : (n : ℕ) (f g : ℕ → ℕ) → ((x : ℕ) → x < n → f x ≤ g x) → sum n f ≤ sum n g
sum_le zero f g h = omega arith
sum_le (suc n) f g h = let a : f n ≤ g n = h n (omega arith) in
    let b : sum n f ≤ sum n g = sum_le n f g (λ x l. h x (omega arith)) in omega (arith, a, b)

-- a sum of such terms, one of which is lower by d, is lower by d
pub sum_drop : (n : ℕ) (f g : ℕ → ℕ) (d x : ℕ) → ((y : ℕ) → y < n → f y ≤ g y) → x < n → f x + d ≤ g x
    → sum n f + d ≤ sum n g
sum_drop zero f g d x h l e = absurd (omega arith)
sum_drop (suc n) f g d x h l e = go (λ m. sum_drop n f g d x (λ y i. h y (omega arith)) m e) (cases_eq x n)
  where
    go : (x < n → sum n f + d ≤ sum n g) → (x ≡ n) ⊎ (x ≡ n → ⊥) → f n + sum n f + d ≤ g n + sum n g
    go ih (inl k) =
        let a : f n + d ≤ g n = subst (λ z. f z + d ≤ g z) k e in
        let b : sum n f ≤ sum n g = sum_le n f g (λ y m. h y (omega arith)) in
        omega (arith, a, b)
    go ih (inr k) =
        let a : f n ≤ g n = h n (omega arith) in
        let b : sum n f + d ≤ sum n g = ih (omega arith) in
        omega (arith, a, b)

pub found_le : (n : ℕ) (p : ℕ → Bool) (f : ℕ → ℕ) (m : ℕ) → ((x : ℕ) → x < n → f x ≤ m) → found n p f ≤ m
found_le zero p f m h = omega arith
found_le (suc n) p f m h = go (found_le n p f m (λ x l. h x (omega arith))) (p n)
  where
    go : found n p f ≤ m → (b : Bool) → cond b (f n) (found n p f) ≤ m
    go ih true = h n (omega arith)
    go ih false = ih

-- where some number passes a test, what is found of positive numbers is positive
pub found_pos : (n : ℕ) (p : ℕ → Bool) (f : ℕ → ℕ) (x : ℕ) → ((y : ℕ) → y < n → 1 ≤ f y) → x < n → p x ≡ true
    → 1 ≤ found n p f
found_pos zero p f x h l e = absurd (omega arith)
found_pos (suc n) p f x h l e = go (λ m. found_pos n p f x (λ y i. h y (omega arith)) m e) (p n) refl
  where
    go : (x < n → 1 ≤ found n p f) → (b : Bool) → p n ≡ b → 1 ≤ cond b (f n) (found n p f)
    go ih true k = h n (omega arith)
    go ih false k = ih (rest (cases_eq x n))
      where
        rest : (x ≡ n) ⊎ (x ≡ n → ⊥) → x < n
        rest (inl i) = absurd (let j : p n ≡ true = subst (λ z. p z ≡ true) i e in cc)
        rest (inr i) = omega arith
