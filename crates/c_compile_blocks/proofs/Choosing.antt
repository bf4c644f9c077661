-- There are no more cases than choices of a bit for each chooser.
use Rattle.std.proofs.Common.{◌≡◌, ℕ, zero, suc, ◌+◌, ◌*◌, ◌^◌, ◌≤◌, Bool, true, false, List}
use Rattle.std.proofs.Common.{[], ◌∷◌, length, refl, sym, ap, ap₂, ◌∙◌, arith, slice_get}
use Rattle.block_cases.specs.Nodes.{one_if}
use Rattle.block_cases.specs.Choosers.{is_chooser}
use Rattle.block_cases.specs.Cases.{has_bit, ones_pass, is_case, count, present, token}
use Rattle.c_compile_blocks.specs.inside.Choosers.{passing, CasesAreFew}
use Rattle.block_cases.proofs.Alike.{and_true, both_true}

-- what passes a test passes a weaker one
ones_weaker : (c : List Bool) (f g : ℕ → Bool) → ((x : ℕ) → f x ≡ true → g x ≡ true)
    → ones_pass c f ≡ true → ones_pass c g ≡ true
ones_weaker [] f g h e = refl
ones_weaker (false ∷ c) f g h e =
    ones_weaker c (λ y. f (suc y)) (λ y. g (suc y)) (λ x. h (suc x)) e
ones_weaker (true ∷ c) f g h e =
    let b = and_true (f 0) (ones_pass c (λ y. f (suc y))) e in
    both_true (g 0) (ones_pass c (λ y. g (suc y))) (h 0 b.0)
    (ones_weaker c (λ y. f (suc y)) (λ y. g (suc y)) (λ x. h (suc x)) b.1)

-- none is counted where none passes
count_none : (n : ℕ) (p : List Bool → Bool) → ((l : List Bool) → p l ≡ false) → count n p ≡ 0
count_none zero p h = ap one_if (h [])
count_none (suc n) p h =
    ap₂ (λ (a b : ℕ). a + b) (count_none n (λ l. p (false ∷ l)) (λ l. h (false ∷ l)))
    (count_none n (λ l. p (true ∷ l)) (λ l. h (true ∷ l)))

one_most : (b : Bool) → one_if b ≤ 1
one_most true = omega arith
one_most false = omega arith

not_true : (b : Bool) → (b ≡ true → false ≡ true) → b ≡ false
not_true true h = absurd (let e = h refl in cc)
not_true false h = refl

-- lists whose ones pass a test are no more than the choices of a bit where it is passed
count_few : (n : ℕ) (p : List Bool → Bool) (f : ℕ → Bool)
    → ((l : List Bool) → p l ≡ true → ones_pass l f ≡ true) → count n p ≤ 2 ^ passing f n
count_few zero p f h = let a = one_most (p []) in omega arith
count_few (suc n) p f h =
    by (f 0) refl (count_few n (λ l. p (false ∷ l)) (λ x. f (suc x)) (λ l e. h (false ∷ l) e))
    (count_few n (λ l. p (true ∷ l)) (λ x. f (suc x))
    (λ l d. (and_true (f 0) (ones_pass l (λ x. f (suc x))) (h (true ∷ l) d)).1))
  where
    by : (b : Bool) → f 0 ≡ b → count n (λ l. p (false ∷ l)) ≤ 2 ^ passing (λ x. f (suc x)) n
        → count n (λ l. p (true ∷ l)) ≤ 2 ^ passing (λ x. f (suc x)) n
        → count n (λ l. p (false ∷ l)) + count n (λ l. p (true ∷ l))
        ≤ 2 ^ (one_if b + passing (λ x. f (suc x)) n)
    by true e k rest =
        let c = passing (λ x. f (suc x)) n in
        let z : 1 + c ≡ suc c = omega arith in
        let t : 2 ^ suc c ≡ 2 ^ c * 2 = omega arith in
        let w : 2 ^ (1 + c) ≡ 2 ^ suc c = ap (λ (x : ℕ). 2 ^ x) z in
        omega (arith, k, rest, t, w)
    by false e k rest =
        let none = count_none n (λ l. p (true ∷ l))
        (λ l. not_true (p (true ∷ l))
        (λ d. sym e ∙ (and_true (f 0) (ones_pass l (λ x. f (suc x))) (h (true ∷ l) d)).0)) in
        let c = passing (λ x. f (suc x)) n in
        let z : 0 + c ≡ c = omega arith in
        let w : 2 ^ (0 + c) ≡ 2 ^ c = ap (λ (x : ℕ). 2 ^ x) z in
        omega (arith, k, none, w)

-- there are no more cases than choices of a bit for each chooser
pub few_cases : CasesAreFew
few_cases ns =
    count_few (length ns) (is_case ns) (λ x. is_chooser ns x (slice_get ns x))
    (λ l e. ones_weaker l (has_bit ns l) (λ x. is_chooser ns x (slice_get ns x))
    (λ x d. (and_true (is_chooser ns x (slice_get ns x)) (present (token ns l x)) d).0) e)

-- FEW CHOOSERS

none_pass : (f : ℕ → Bool) (n : ℕ) → ((x : ℕ) → f x ≡ true → false ≡ true) → passing f n ≡ 0
none_pass f zero h = refl
none_pass f (suc n) h =
    ap₂ (λ (a b : ℕ). a + b) (ap one_if (not_true (f 0) (h 0)))
    (none_pass (λ x. f (suc x)) n (λ x. h (suc x)))

-- where only one number passes, at most one is counted
pub one_passes : (n p : ℕ) (f : ℕ → Bool) → ((x : ℕ) → f x ≡ true → x ≡ p) → passing f n ≤ 1
one_passes zero p f h = omega arith
one_passes (suc n) zero f h =
    let a = one_most (f 0) in
    let b = none_pass (λ x. f (suc x)) n (λ x e. let z = h (suc x) e in absurd (omega (arith, z))) in
    omega (arith, a, b)
one_passes (suc n) (suc p) f h =
    let a = ap one_if (not_true (f 0) (λ e. let z = h 0 e in absurd (omega (arith, z)))) in
    let b = one_passes n p (λ x. f (suc x)) (λ x e. let z = h (suc x) e in omega (arith, z)) in
    omega (arith, a, b)
