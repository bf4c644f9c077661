-- Arguments, as the first scalars of the function that is called.
use Rattle.std.proofs.Common.{◌≡◌, ℕ, List, [], ◌∷◌, ◌++◌, map, Option, Some, refl, ap, ◌∙◌, sym}
use Rattle.c_meaning.specs.inside.Given.{word_of, words}

-- one more word
words-push : (cs : List (Option ℕ)) (w : ℕ) → words (cs ++ Some w ∷ []) ≡ words cs ++ w ∷ []
words-push [] w = refl
words-push (c ∷ cs) w = ap (λ (ws : List ℕ). word_of c ∷ ws) (words-push cs w)

some-push : (ws : List ℕ) (w : ℕ) → map Some (ws ++ w ∷ []) ≡ map Some ws ++ Some w ∷ []
some-push [] w = refl
some-push (v ∷ ws) w = ap (λ (cs : List (Option ℕ)). Some v ∷ cs) (some-push ws w)

-- scalars that are set stay so with one more
pub filled_push : (cs new : List (Option ℕ)) (w : ℕ) → new ≡ cs ++ Some w ∷ [] → map Some (words cs) ≡ cs
    → map Some (words new) ≡ new
filled_push cs new w n e =
    ap (λ (xs : List (Option ℕ)). map Some (words xs)) n
    ∙ (ap (λ (ws : List ℕ). map Some ws) (words-push cs w)
    ∙ (some-push (words cs) w
    ∙ (ap (λ (xs : List (Option ℕ)). xs ++ Some w ∷ []) e ∙ sym n)))

-- their words, with one more
pub words_push : (cs new : List (Option ℕ)) (w : ℕ) → new ≡ cs ++ Some w ∷ [] → words new ≡ words cs ++ w ∷ []
words_push cs new w n = ap words n ∙ words-push cs w
