-- The entries of a predictor, whose words are drawn one after another.
use Rattle.std.proofs.Common.{◌≡◌, ℕ, zero, suc, ◌-◌, ◌%◌, ◌<◌, ◌≤◌, List, [], ◌∷◌, ◌++◌, length, refl}
use Rattle.std.proofs.Common.{ap, ap₂, ◌∙◌, arith}
use Rattle.std.proofs.lemmas.List.{append_assoc, append-nil}
use Rattle.rand_pcg.specs.Lcg.{Lcg, started, increment_of}
use Rattle.rand_pcg.specs.Pcg.{pcg32, multiplier_64}
use Rattle.block_predict.specs.Seeded.{drawn, entries_of, generator}

-- one word more of those that are left
pub one_word : (xs : List ℕ) (left : ℕ) (g : Lcg) → 0 < left
    → (xs ++ (pcg32 g).0 % 8 ∷ []) ++ drawn (left - 1) (pcg32 g).1 ≡ xs ++ drawn left g
unfolding drawn
one_word xs zero g lt = absurd (omega arith)
one_word xs (suc left) g lt =
    let e : suc left - 1 ≡ left = omega arith in
    ap (λ n. (xs ++ (pcg32 g).0 % 8 ∷ []) ++ drawn n (pcg32 g).1) e
    ∙ append_assoc xs ((pcg32 g).0 % 8 ∷ []) (drawn left (pcg32 g).1)

-- where no word is left to draw, none is added
pub no_word : (xs : List ℕ) (left : ℕ) (g : Lcg) → left ≤ 0 → xs ++ drawn left g ≡ xs
unfolding drawn
no_word xs zero g le = append-nil xs
no_word xs (suc left) g le = absurd (omega arith)

pub length_drawn : (n : ℕ) (g : Lcg) → length (drawn n g) ≡ n
unfolding drawn
length_drawn zero g = refl
length_drawn (suc n) g = ap suc (length_drawn n (pcg32 g).1)

-- a seed has 1,024 entries
pub length_entries : (seed : ℕ) → length (entries_of seed) ≡ 1024
unfolding entries_of
length_entries seed = length_drawn 1024 (generator seed)

-- at the start all words are left
pub begins : (xs : List ℕ) (g : Lcg) (seed : ℕ) → xs ≡ [] → g ≡ started 64 multiplier_64 seed (increment_of 64 2)
    → xs ++ drawn 1024 g ≡ entries_of seed
unfolding entries_of generator
begins xs g seed e f = ap₂ (λ ys h. ys ++ drawn 1024 h) e f

-- one word has been drawn
pub goes_on : (xs ys : List ℕ) (left : ℕ) (g h : Lcg) (w : ℕ) (all : List ℕ) → 0 < left → (w, h) ≡ pcg32 g
    → ys ≡ xs ++ w % 8 ∷ [] → xs ++ drawn left g ≡ all → ys ++ drawn (left - 1) h ≡ all
goes_on xs ys left g h w all lt step more so_far =
    ap (λ zs. zs ++ drawn (left - 1) h) more
    ∙ ap (λ (p : ℕ × Lcg). (xs ++ p.0 % 8 ∷ []) ++ drawn (left - 1) p.1) step
    ∙ one_word xs left g lt ∙ so_far
