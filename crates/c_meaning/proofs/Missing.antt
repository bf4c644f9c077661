-- Why an object holds no word, by whether it is there.
use Rattle.std.proofs.Common.{◌≡◌, ℕ, zero, suc, ◌<◌, ◌≤◌, List, [], ◌∷◌, Option, Some, None, length, refl, arith}
use Rattle.std.specs.Prelude.{slice_get}
use Rattle.c_meaning_spec.specs.State.{no_word, cell_in, row_in}
use Rattle.c_meaning_spec.specs.declared.Fault.{Fault}
use Rattle.c_meaning_spec.specs.declared.Fault.TheVariants.{NeverSet}

-- a scalar that is there is not set
pub scalar_there : (c : Fault) (cs : List (Option ℕ)) (i : ℕ) → i < length cs → NeverSet ≡ no_word c (slice_get cs i)
scalar_there c [] i h = absurd (omega arith)
scalar_there c (x ∷ cs) zero h = refl
scalar_there c (x ∷ cs) (suc i) h = scalar_there c cs i (omega arith)

-- one that is not has this reason
pub scalar_past : (c : Fault) (cs : List (Option ℕ)) (i : ℕ) → (i < length cs → ⊥) → c ≡ no_word c (slice_get cs i)
scalar_past c [] i h = refl
scalar_past c (x ∷ cs) zero h = absurd (h (omega arith))
scalar_past c (x ∷ cs) (suc i) h = scalar_past c cs i (λ l. h (omega arith))

-- an element that is there is not set
pub element_there : (c : Fault) (r : Option (List (Option ℕ))) (i : ℕ) → i < length (row_in r)
    → NeverSet ≡ no_word c (cell_in r i)
element_there c None i h = absurd (omega arith)
element_there c (Some row) i h = scalar_there c row i h

-- one that is not has this reason
pub element_past : (c : Fault) (r : Option (List (Option ℕ))) (i : ℕ) → (i < length (row_in r) → ⊥)
    → c ≡ no_word c (cell_in r i)
element_past c None i h = refl
element_past c (Some row) i h = scalar_past c row i h
