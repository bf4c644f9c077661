-- How many lists of bits pass a test, and lists that agree.
use Rattle.std.proofs.Common.{◌≡◌, ℕ, zero, suc, ◌+◌, Bool, true, false, ◌&&◌, ◌||◌}
use Rattle.std.proofs.Common.{List, [], ◌∷◌, length, refl, sym}
use Rattle.std.proofs.Common.{ap, ap₂, arith}
use Rattle.block_cases.specs.Nodes.{one_if}
use Rattle.block_cases.specs.CaseRule.{no}
use Rattle.block_cases.specs.Cases.{bit}
use Rattle.block_cases.specs.Cases.{count}
use Rattle.block_cases.proofs.Alike.{both_true, and_true}

-- tests -----------------------------------------------------------------------------------------

-- two tests of which each implies the other are one
pub same_test : (a b : Bool) → (a ≡ true → b ≡ true) → (b ≡ true → a ≡ true) → a ≡ b
same_test true b h i = sym (h refl)
same_test false true h i = i refl
same_test false false h i = refl

-- what is not true is false
pub not_true : (a : Bool) → (a ≡ true → ⊥) → a ≡ false
not_true true h = absurd (h refl)
not_true false h = refl

-- counting --------------------------------------------------------------------------------------

-- two tests that agree on the lists of a length pass as many of them
pub count_same : (n : ℕ) (p q : List Bool → Bool) → ((l : List Bool) → length l ≡ n → p l ≡ q l) →
    count n p ≡ count n q
count_same zero p q h = ap one_if (h [] refl)
count_same (suc n) p q h = ap₂ (λ a b. a + b) (count_same n _ _ (λ l e. h (false ∷ l) (ap suc e)))
    (count_same n _ _ (λ l e. h (true ∷ l) (ap suc e)))

pub split_one : (a b : Bool) → one_if a ≡ one_if (a && no b) + one_if (a && b)
split_one true true = refl
split_one true false = refl
split_one false b = refl

-- the lists that pass a test are those that fail a second one and those that pass it too
pub count_split : (n : ℕ) (p t : List Bool → Bool) → count n p ≡ count n (λ l. p l
    && no (t l)) + count n (λ l. p l && t l)
count_split zero p t = split_one (p []) (t [])
count_split (suc n) p t =
    let a = count_split n (λ l. p (false ∷ l)) (λ l. t (false ∷ l)) in
    let b = count_split n (λ l. p (true ∷ l)) (λ l. t (true ∷ l)) in
    omega (arith, a, b)

-- of a test that each list fails none passes
pub count_none : (n : ℕ) (p : List Bool → Bool) → ((l : List Bool) → length l ≡ n → p l ≡ false) →
    count n p ≡ 0
count_none zero p h = ap one_if (h [] refl)
count_none (suc n) p h =
    let a = count_none n (λ l. p (false ∷ l)) (λ l e. h (false ∷ l) (ap suc e)) in
    let b = count_none n (λ l. p (true ∷ l)) (λ l e. h (true ∷ l) (ap suc e)) in
    omega (arith, a, b)

-- agreement -------------------------------------------------------------------------------------

abbrev pub same_bit : Bool → Bool → Bool
same_bit true v = v
same_bit false v = no v

-- l has the bits of c but at nodes in r
abbrev pub agree : (ℕ → Bool) → List Bool → List Bool → Bool
agree r [] l = true
agree r (u ∷ us) [] = true
agree r (u ∷ us) (v ∷ vs) = (r 0 || same_bit u v) && agree (λ y. r (suc y)) us vs

pub same_bit_is : (u v : Bool) → same_bit u v ≡ true → u ≡ v
same_bit_is true v e = sym e
same_bit_is false true e = absurd (cc)
same_bit_is false false e = refl

pub is_same_bit : (u v : Bool) → u ≡ v → same_bit u v ≡ true
is_same_bit true v e = sym e
is_same_bit false v e = ap no (sym e)

pub or_rest : (a b : Bool) → (a || b) ≡ true → a ≡ false → b ≡ true
or_rest true b e h = absurd (cc)
or_rest false b e h = e

-- lists that agree but at the nodes in r have the same bit at each other node
pub agree_at : (r : ℕ → Bool) (c l : List Bool) → length c ≡ length l → agree r c l ≡ true
    → (y : ℕ) →
    r y ≡ false → bit c y ≡ bit l y
agree_at r [] [] s e y h = refl
agree_at r [] (v ∷ vs) s e y h = absurd (cc)
agree_at r (u ∷ us) [] s e y h = absurd (cc)
agree_at r (u ∷ us) (v ∷ vs) s e zero h = same_bit_is u v (or_rest _ _ (and_true _ _ e).0 h)
agree_at r (u ∷ us) (v ∷ vs) s e (suc y) h = agree_at (λ z. r (suc z)) us vs (omega arith)
    (and_true _ _ e).1 y h

-- lists that have the same bit at each node outside r agree but at the nodes in r
pub agree_from : (r : ℕ → Bool) (c l : List Bool) → ((y : ℕ) → r y ≡ false → bit c y ≡ bit l y) →
    agree r c l ≡ true
agree_from r [] l h = refl
agree_from r (u ∷ us) [] h = refl
agree_from r (u ∷ us) (v ∷ vs) h = both_true _ _ (head (r 0) refl) (agree_from (λ y. r (suc y)) us
    vs (λ y e. h (suc y) e))
  where
    head : (b : Bool) → r 0 ≡ b → (b || same_bit u v) ≡ true
    head true e = refl
    head false e = is_same_bit u v (h 0 e)

-- lists with the same bits
pub one_list : (c : List Bool) (n : ℕ) → length c ≡ n → (p : List Bool → Bool) →
    count n (λ l. agree (λ y. false) c l && p l) ≡ one_if (p c)
one_list [] zero e p = refl
one_list [] (suc n) e p = absurd (cc)
one_list (u ∷ us) zero e p = absurd (cc)
one_list (true ∷ us) (suc n) e p =
    let a = one_list us n (omega arith) (λ l. p (true ∷ l)) in
    let z = count_none n (λ l. agree (λ y. false) (true ∷ us) (false ∷ l)
    && p (false ∷ l)) (λ l i. refl) in
    omega (arith, a, z)
one_list (false ∷ us) (suc n) e p =
    let a = one_list us n (omega arith) (λ l. p (false ∷ l)) in
    let z = count_none n (λ l. agree (λ y. false) (false ∷ us) (true ∷ l)
    && p (true ∷ l)) (λ l i. refl) in
    omega (arith, a, z)
