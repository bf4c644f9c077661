-- Bytes that begin with others.
use Rattle.std.proofs.Common.{◌≡◌, ◌∙◌, ℕ, ◌+◌, ◌<◌, ◌≤◌, List, [], ◌∷◌, ◌++◌, length, take, get_or, sym, ap, ap₂}
use Rattle.std.proofs.Common.{refl, arith}
use Rattle.std.proofs.lemmas.List.{take_more, take_all}

-- one byte more is the same
pub one_more : (xs ys : List ℕ) (k : ℕ) → k < length xs → k < length ys → take k xs ≡ take k ys
    → get_or xs k 0 ≡ get_or ys k 0 → take (k + 1) xs ≡ take (k + 1) ys
one_more xs ys k l m same e =
    take_more xs k 0 l ∙ ap₂ (λ (zs : List ℕ) (z : ℕ). zs ++ z ∷ []) same e ∙ sym (take_more ys k 0 m)

-- all of them are
pub all_same : (xs ys : List ℕ) (k : ℕ) → take k xs ≡ take k ys → k ≡ length ys → take (length ys) xs ≡ ys
all_same xs ys k same e =
    ap (λ (n : ℕ). take n xs) (sym e) ∙ same ∙ take_all k ys (omega (arith, e))
