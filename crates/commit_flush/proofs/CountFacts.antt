-- Different numbers of the eight are at most eight.
use Rattle.std.proofs.Common.{◌≡◌, ◌≢◌, ℕ, zero, suc, ◌+◌, ◌<◌, ◌≤◌, Bool, true, false, cond, ◌==◌, ◌||◌, List, []}
use Rattle.std.proofs.Common.{◌∷◌, length, refl, sym, ap, ap₂, ◌∙◌, arith, zero-add}
use Rattle.commit_flush_spec.proofs.Lists.{equal_or}
use Rattle.std.proofs.Common.{◌⊎◌, inl, inr}
use Rattle.commit_flush_spec.specs.inside.Laws.{AreNumbers}
use Rattle.commit_flush.specs.inside.Kept.{is_in}
use Rattle.commit_flush.proofs.NumberTests.{is_equal, apart}

abbrev one_if : Bool → ℕ
one_if b = cond b 1 0

-- how many numbers below k pass a test
abbrev tally : ℕ → (ℕ → Bool) → ℕ
tally zero p = 0
tally (suc k) p = one_if (p k) + tally k p

tally_most : (k : ℕ) (p : ℕ → Bool) → tally k p ≤ k
tally_most zero p = omega arith
tally_most (suc k) p = go (p k) (tally_most k p)
  where
    go : (b : Bool) → tally k p ≤ k → one_if b + tally k p ≤ suc k
    go true h = omega arith
    go false h = omega arith

-- a number from k on counts for nothing
tally_past : (k x : ℕ) (p : ℕ → Bool) → k ≤ x → tally k (λ n. (x == n) || p n) ≡ tally k p
tally_past zero x p l = refl
tally_past (suc k) x p l =
    ap₂ (λ b n. one_if (b || p k) + n) (apart x k (λ z. absurd (omega arith))) (tally_past k x p (omega arith))

-- a number below k that did not pass counts for one
tally_more : (k x : ℕ) (p : ℕ → Bool) → x < k → p x ≡ false → tally k (λ n. (x == n) || p n) ≡ suc (tally k p)
tally_more zero x p l e = absurd (omega arith)
tally_more (suc k) x p l e = elim (equal_or x k) [
  | inl z ↦ ap₂ (λ b n. one_if (b || p k) + n) (is_equal x k z) (tally_past k x p (omega arith))
      ∙ (let lacks : p k ≡ false = ap p (sym z) ∙ e in
      let more : 1 + tally k p ≡ suc (one_if false + tally k p) = omega arith in
      more ∙ ap (λ b. suc (one_if b + tally k p)) (sym lacks))
  | inr z ↦ ap₂ (λ b n. one_if (b || p k) + n) (apart x k z) (tally_more k x p (omega arith) e)
      ∙ next (one_if (p k)) (tally k p)
]
  where
    next : (m n : ℕ) → m + suc n ≡ suc (m + n)
    next m n = omega arith

-- an order has as many numbers as are in it; k is 8, as a variable since a numeral unrolls recursions
counted : (k : ℕ) → k ≡ 8 → (order : List ℕ) → AreNumbers order → length order ≡ tally k (λ n. is_in n order)
counted k e [] h = sym (none_counted k)
  where
    none_counted : (j : ℕ) → tally j (λ n. is_in n []) ≡ 0
    none_counted zero = refl
    none_counted (suc j) = zero-add (tally j (λ n. is_in n [])) ∙ none_counted j
counted k e (x ∷ xs) h =
    let l : x < 8 = h.0 in
    ap suc (counted k e xs h.2) ∙ sym (tally_more k x (λ n. is_in n xs) (omega arith) h.1)

-- different numbers below eight are at most eight
pub at_most_eight : (order : List ℕ) → AreNumbers order → length order ≤ 8
at_most_eight order h = most 8 refl
  where
    most : (k : ℕ) → k ≡ 8 → length order ≤ k
    most k e =
        let m : tally k (λ n. is_in n order) ≤ k = tally_most k (λ n. is_in n order) in
        let c : length order ≡ tally k (λ n. is_in n order) = counted k e order h in
        omega arith

-- with a number that is not in the order there is room for one more
pub room_for : (order : List ℕ) (n : ℕ) → AreNumbers order → n < 8 → is_in n order ≡ false → length order < 8
room_for order n h l e = let m : length (n ∷ order) ≤ 8 = at_most_eight (n ∷ order) (l, e, h) in omega arith
