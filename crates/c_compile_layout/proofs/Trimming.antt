-- Bytes without the zeros at their end, found in one walk.
use Rattle.std.proofs.Common.{◌≡◌, ◌≢◌, ℕ, zero, suc, ◌+◌, ◌<◌, List, [], ◌∷◌, ◌++◌, length, take, refl}
use Rattle.std.proofs.Common.{sym, ap, ◌∙◌, arith}
use Rattle.std.specs.Prelude.{slice_index}
use Rattle.c_compile_layout.specs.inside.Standings.{kept_before, trimmed}

zero_goes : (xs : List ℕ) → trimmed (xs ++ 0 ∷ []) ≡ trimmed xs
zero_goes [] = refl
zero_goes (x ∷ xs) = ap (kept_before x) (zero_goes xs)

front_stays : (x b : ℕ) (xs : List ℕ) → kept_before x (xs ++ b ∷ []) ≡ x ∷ (xs ++ b ∷ [])
front_stays zero b [] = refl
front_stays (suc x) b [] = refl
front_stays zero b (y ∷ ys) = refl
front_stays (suc x) b (y ∷ ys) = refl

all_stay : (xs : List ℕ) (b : ℕ) → b ≢ 0 → trimmed (xs ++ b ∷ []) ≡ xs ++ b ∷ []
all_stay [] zero n = absurd (n refl)
all_stay [] (suc b) n = refl
all_stay (x ∷ xs) b n = ap (kept_before x) (all_stay xs b n) ∙ front_stays x b xs

next_taken : (xs : List ℕ) (k : ℕ) → k < length xs
    → take (suc k) xs ≡ take k xs ++ slice_index xs k ∷ []
next_taken [] k l = absurd (omega arith)
next_taken (x ∷ xs) zero l = refl
next_taken (x ∷ xs) (suc k) l = ap (λ ys. x ∷ ys) (next_taken xs k (omega arith))

-- a zero more changes nothing
pub past_zero : (xs : List ℕ) (k : ℕ) → k < length xs → slice_index xs k ≡ 0
    → trimmed (take (k + 1) xs) ≡ trimmed (take k xs)
past_zero xs k l e =
    let s : k + 1 ≡ suc k = omega arith in
    ap (λ n. trimmed (take n xs)) s
    ∙ ap trimmed (next_taken xs k l ∙ ap (λ b. take k xs ++ b ∷ []) e) ∙ zero_goes (take k xs)

-- another byte keeps all
pub past_other : (xs : List ℕ) (k : ℕ) → k < length xs → slice_index xs k ≢ 0
    → trimmed (take (k + 1) xs) ≡ take (k + 1) xs
past_other xs k l n =
    let s : k + 1 ≡ suc k = omega arith in
    ap (λ m. trimmed (take m xs)) s ∙ ap trimmed (next_taken xs k l)
    ∙ all_stay (take k xs) (slice_index xs k) n
    ∙ sym (ap (λ m. take m xs) s ∙ next_taken xs k l)
