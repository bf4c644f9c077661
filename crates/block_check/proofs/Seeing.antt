-- Counts in which two and more are not told apart.
use Rattle.std.proofs.Common.{◌≡◌, ℕ, zero, suc, ◌+◌, ◌<◌, ◌≤◌, Bool, true, false, nat_lt, ◌==◌, min}
use Rattle.std.proofs.Common.{List, [], ◌∷◌, length, take, get_or, Some, slice_get, slice_set, refl}
use Rattle.std.proofs.Common.{sym, ap, ◌∙◌, arith}
use Rattle.block_cases.specs.declared.token.CaseToken.{CaseToken}
use Rattle.trips_isa.specs.declared.node.Node.{Node}
use Rattle.block_cases.specs.Nodes.{targets, hits, one_if}
use Rattle.block_cases.specs.Cases.{present, tokens}
use Rattle.block_check.proofs.Adding.{count_more, count_same}
use Rattle.block_check.proofs.Cycles.{eq_is, eq_not, same}

set_here : (l : List ℕ) (x v : ℕ) → x < length l → get_or (slice_set l x v) x 0 ≡ v
set_here [] x v h = absurd (omega arith)
set_here (a ∷ l) zero v h = refl
set_here (a ∷ l) (suc x) v h = set_here l x v (omega arith)

set_there : (l : List ℕ) (x y v : ℕ) → (x ≡ y → ⊥) → get_or (slice_set l x v) y 0 ≡ get_or l y 0
set_there [] x y v h = refl
set_there (a ∷ l) zero zero v h = absurd (h refl)
set_there (a ∷ l) zero (suc y) v h = refl
set_there (a ∷ l) (suc x) zero v h = refl
set_there (a ∷ l) (suc x) (suc y) v h = set_there l x y v (λ e. h (ap suc e))

at_most_two : (k : ℕ) → k ≤ 2 → k ≡ min 2 (k + 0)
at_most_two k h = omega arith

-- one token more at place p
pub seen_at : (l : List ℕ) (p v q : ℕ) → p < length l → v ≡ min 2 (get_or l p 0 + 1) →
    get_or l q 0 ≤ 2 → get_or (slice_set l p v) q 0 ≡ min 2 (get_or l q 0 + one_if (p == q))
seen_at l p v q lt e low = go (p == q) refl
  where
    go : (b : Bool) → (p == q) ≡ b → get_or (slice_set l p v) q 0 ≡ min 2 (get_or l q 0 + one_if b)
    go true i =
        let is : p ≡ q = eq_is p q i in
        ap (λ k. get_or (slice_set l p v) k 0) (sym is) ∙ set_here l p v lt ∙ e
        ∙ ap (λ k. min 2 (get_or l k 0 + 1)) is
    go false i = set_there l p q v (eq_not p q i) ∙ at_most_two (get_or l q 0) low

-- a count up to 2 that is seen after two additions is the one of both together
pub seen_two : (old mid new x y : ℕ) → mid ≡ min 2 (old + x) → new ≡ min 2 (mid + y) →
    new ≡ min 2 (old + (x + (y + 0)))
seen_two old mid new x y a b = omega (arith, a, b)

-- a count that is seen is at most 2
pub seen_low : (old k x : ℕ) → k ≡ min 2 (old + x) → k ≤ 2
seen_low old k x a = omega (arith, a)

seen_sum : (t old new h : ℕ) → old ≡ min 2 t → new ≡ min 2 (old + h) → new ≡ min 2 (t + h)
seen_sum t old new h a b = omega (arith, a, b)

-- the tokens of one node more
pub seen_more : (ns : List Node) (x : ℕ) (n : Node) (f : ℕ → CaseToken) (q old new : ℕ) →
    slice_get ns x ≡ Some n → present (f x) ≡ true → old ≡ min 2 (tokens (take x ns) f q) →
    new ≡ min 2 (old + hits (targets n) q) → new ≡ min 2 (tokens (take (x + 1) ns) f q)
seen_more ns x n f q old new e p a b = seen_sum (tokens (take x ns) f q) old new (hits (targets n)
    q) a b ∙ ap (λ k. min 2 k) (count_more ns x n f q (tokens (take x ns) f q) (tokens (take x ns)
    f q + hits (targets n) q) e p refl refl)

-- a node that does not fire leaves the count of a place as it is seen
pub seen_same : (ns : List Node) (x : ℕ) (n : Node) (f : ℕ → CaseToken) (q old : ℕ) →
    slice_get ns x ≡ Some n → present (f x) ≡ false → old ≡ min 2 (tokens (take x ns) f q) →
    old ≡ min 2 (tokens (take (x + 1) ns) f q)
seen_same ns x n f q old e p a = a ∙ ap (λ k. min 2 k) (count_same ns x n f q (tokens (take x ns) f
    q) e p refl)

-- what such a count tells
lt_true : (a b : ℕ) → a < b → nat_lt a b ≡ true
lt_true a b h = grind arith

lt_false : (a b : ℕ) → b ≤ a → nat_lt a b ≡ false
lt_false a b h = grind arith

-- a count that is seen is above 1 exactly where the true one is
pub tells_two : (s t : ℕ) → s ≡ min 2 t → nat_lt 1 s ≡ nat_lt 1 t
tells_two s t e = go (nat_lt 1 t) refl
  where
    go : (b : Bool) → nat_lt 1 t ≡ b → nat_lt 1 s ≡ b
    go true i = let lt : 1 < t = grind arith in lt_true 1 s (omega (arith, e, lt))
    go false i = let le : t ≤ 1 = grind arith in lt_false 1 s (omega (arith, e, le))

not_same : (a b : ℕ) → (a ≡ b → ⊥) → (a == b) ≡ false
not_same a b h = go (a == b) refl
  where
    go : (v : Bool) → (a == b) ≡ v → v ≡ false
    go true e = absurd (h (eq_is a b e))
    go false e = refl

-- a count that is seen is 0 exactly where the true one is
pub tells_none : (s t : ℕ) → s ≡ min 2 t → (s == 0) ≡ (t == 0)
tells_none s t e = go (t == 0) refl
  where
    go : (b : Bool) → (t == 0) ≡ b → (s == 0) ≡ b
    go true i = let z : t ≡ 0 = eq_is t 0 i in same s 0 (omega (arith, e, z))
    go false i = not_same s 0 (λ z. eq_not t 0 i (omega (arith, e, z)))
