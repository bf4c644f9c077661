-- Lists that are written one by one.
use Rattle.std.proofs.Common.{◌≡◌, ℕ, zero, suc, ◌+◌, ◌-◌, ◌*◌, ◌/◌, ◌%◌, ◌^◌, ◌<◌, List, [], ◌∷◌}
use Rattle.std.proofs.Common.{◌++◌, length, drop, replicate, get_or, refl, sym, ap, ◌∙◌}
use Rattle.std.proofs.Common.{append_assoc, arith}
use Rattle.std.proofs.Math.Seq.{drop-cons}
use Rattle.flat_lower.specs.inside.Statements.{word_bytes}
use Rattle.flat_lower.specs.inside.Emitted.{starts_from}

-- a byte's place as a power
pub powers : (n : ℕ) → n < 8 → 2 ^ (8 * n) ≡ 256 ^ n
powers zero h = refl
powers (suc zero) h = refl
powers (suc (suc zero)) h = refl
powers (suc (suc (suc zero))) h = refl
powers (suc (suc (suc (suc zero)))) h = refl
powers (suc (suc (suc (suc (suc zero))))) h = refl
powers (suc (suc (suc (suc (suc (suc zero)))))) h = refl
powers (suc (suc (suc (suc (suc (suc (suc zero))))))) h = refl
powers (suc (suc (suc (suc (suc (suc (suc (suc n)))))))) h = absurd (omega arith)

-- the item at a place, and the rest
pub item_at : {A : Type 0} → (xs : List A) (i : ℕ) (x : A) → i < length xs
    → drop i xs ≡ get_or xs i x ∷ drop (i + 1) xs
item_at xs i x h =
    let e1 : i + 1 ≡ suc i = omega arith in drop-cons xs i x h ∙ ap (λ n. get_or xs i x ∷ drop n xs) (sym e1)

-- the same of an item that is known
pub item_of : {A : Type 0} → (xs : List A) (i : ℕ) (x : A) → i < length xs → x ≡ get_or xs i x
    → drop i xs ≡ x ∷ drop (i + 1) xs
item_of xs i x h e = item_at xs i x h ∙ ap (λ y. y ∷ drop (i + 1) xs) (sym e)

-- one start more
pub start_more : (found found' : List ℕ) (at next b : ℕ) (bs all : List ℕ)
    → found' ≡ found ++ at ∷ [] → next ≡ at + b
    → found ++ starts_from at (b ∷ bs) ≡ all → found' ++ starts_from next bs ≡ all
start_more found found' at next b bs all h k e =
    ap (λ f. f ++ starts_from next bs) h ∙ append_assoc found (at ∷ []) (starts_from next bs)
    ∙ ap (λ n. found ++ at ∷ starts_from n bs) k ∙ e

-- one piece more
pub piece_more : {A : Type 0} → (written written' piece rest all : List A)
    → written' ≡ written ++ piece
    → written ++ (piece ++ rest) ≡ all → written' ++ rest ≡ all
piece_more w w' p r all h e = ap (λ x. x ++ r) h ∙ append_assoc w p r ∙ e

-- the first byte of a word, and then the others
pub word_on : (old mid new : List ℕ) (b w size : ℕ) → 0 < size → b ≡ (w / 256 ^ (size - 1)) % 256
    → mid ≡ old ++ b ∷ []
    → new ≡ mid ++ word_bytes (size - 1) w → new ≡ old ++ word_bytes size w
word_on old mid new b w zero s h m n = absurd (omega arith)
word_on old mid new b w (suc k) s h m n =
    let e : suc k - 1 ≡ k = omega arith in
    n ∙ ap (λ x. x ++ word_bytes (suc k - 1) w) m
    ∙ append_assoc old (b ∷ []) (word_bytes (suc k - 1) w)
    ∙ ap (λ y. old ++ y ∷ word_bytes (suc k - 1) w) h
    ∙ ap (λ j. old ++ (w / 256 ^ j) % 256 ∷ word_bytes j w) e

-- one zero more
pub zero_more : (old now new : List ℕ) (i count : ℕ) → i < count → new ≡ now ++ 0 ∷ []
    → now ++ replicate (count - i) 0 ≡ old ++ replicate count 0
    → new ++ replicate (count - (i + 1)) 0 ≡ old ++ replicate count 0
zero_more old now new i count l h e =
    let k : count - i ≡ suc (count - (i + 1)) = omega arith in
    piece_more now new (0 ∷ []) (replicate (count - (i + 1)) 0) (old ++ replicate count 0) h
    (ap (λ n. now ++ replicate n 0) (sym k) ∙ e)
