-- The texts of numbered items, one after the other.
use Rattle.std.proofs.Common.{◌≡◌, ℕ, suc, ◌+◌, ◌<◌, List, [], ◌∷◌, ◌++◌, length, take, get_or}
use Rattle.std.proofs.Common.{refl, sym, ap, ◌∙◌, arith, append_assoc}
use Rattle.std.proofs.lemmas.List.{append-nil, take_more, length-take-le}
use Rattle.target_asm_spec.specs.Numbers.{numbered}

-- one item more, at the end
pub numbered_end : {A : Type 0} (f : ℕ → A → List ℕ) (j : ℕ) (xs : List A) (y : A)
    → numbered f j (xs ++ y ∷ []) ≡ numbered f j xs ++ f (j + length xs) y
numbered_end f j [] y = append-nil (f j y) ∙ ap (λ n. f n y) (omega arith)
numbered_end f j (x ∷ xs) y =
    let e : suc j + length xs ≡ j + length (x ∷ xs) = omega arith in
    ap (λ t. f j x ++ t) (numbered_end f (suc j) xs y ∙ ap (λ n. numbered f (suc j) xs ++ f n y) e)
    ∙ sym (append_assoc (f j x) (numbered f (suc j) xs) (f (j + length (x ∷ xs)) y))

-- a loop's step
pub numbered_more : {A : Type 0} (f : ℕ → A → List ℕ) (k : ℕ) (xs : List A) (d : A) → k < length xs
    → numbered f 0 (take (k + 1) xs) ≡ numbered f 0 (take k xs) ++ f k (get_or xs k d)
numbered_more f k xs d h =
    let l : length (take k xs) ≡ k = length-take-le k xs (omega arith) in
    let e : 0 + length (take k xs) ≡ k = omega arith in
    ap (numbered f 0) (take_more xs k d h) ∙ numbered_end f 0 (take k xs) (get_or xs k d)
    ∙ ap (λ n. numbered f 0 (take k xs) ++ f n (get_or xs k d)) e

-- one item more, with its number, goes on with what is written
pub numbered_step : {A : Type 0} (f : ℕ → A → List ℕ) (k : ℕ) (xs : List A) (d : A)
    (start out new : List ℕ) → k < length xs → out ≡ start ++ numbered f 0 (take k xs)
    → new ≡ out ++ f k (get_or xs k d)
    → new ≡ start ++ numbered f 0 (take (k + 1) xs)
numbered_step f k xs d start out new h o n =
    n ∙ ap (λ t. t ++ f k (get_or xs k d)) o
    ∙ append_assoc start (numbered f 0 (take k xs)) (f k (get_or xs k d))
    ∙ ap (λ t. start ++ t) (sym (numbered_more f k xs d h))

-- equal ways to write items write the same
pub numbered_same : {A : Type 0} (f g : ℕ → A → List ℕ) (k : ℕ) (xs : List A)
    → ((i : ℕ) (x : A) → f i x ≡ g i x) → numbered f k xs ≡ numbered g k xs
numbered_same f g k [] h = refl
numbered_same f g k (x ∷ xs) h = ap (λ t. t ++ numbered f (suc k) xs) (h k x)
    ∙ ap (λ t. g k x ++ t) (numbered_same f g (suc k) xs h)
