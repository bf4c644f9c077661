-- The lines of entries, one after the other, as a loop writes them.
use Rattle.std.proofs.Common.{◌≡◌, ◌∙◌, ℕ, ◌+◌, ◌<◌, List, ◌++◌, length, take, get_or, sym, ap}
use Rattle.std.specs.List.{flat_map}
use Rattle.std.proofs.lemmas.List.{flat_map_more, take_more}

-- a loop's step: one item more
pub item_step : {A : Type 0} (f : A → List ℕ) (i : ℕ) (xs : List A) (d : A) (start out new : List ℕ)
    → i < length xs → out ≡ start ++ flat_map f (take i xs) → new ≡ out ++ f (get_or xs i d)
    → new ≡ start ++ flat_map f (take (i + 1) xs)
item_step f i xs d start out new l o n =
    n ∙ ap (λ t. t ++ f (get_or xs i d)) o ∙ flat_map_more f start (take i xs) (get_or xs i d)
    ∙ ap (λ t. start ++ flat_map f t) (sym (take_more xs i d l))
