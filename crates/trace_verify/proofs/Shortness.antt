-- A record that is not whole with a byte more.
use Rattle.std.proofs.Common.{◌≡◌, ℕ, zero, suc, ◌+◌, ◌<◌, List, [], ◌∷◌, ◌++◌, length, Option, Some, None}
use Rattle.std.proofs.Common.{slice_index}
use Rattle.std.proofs.Common.{refl, sym, ap, subst, ◌∙◌, arith}
use Rattle.std.proofs.lemmas.List.{length-append}
use Rattle.trace_verify.specs.FirstFault.{record_size, IsShort, nothing, begun}
use Rattle.trace_verify.proofs.EntryEnds.{size_some}

-- a record that has not all its bytes is short
pub still_short : (xs : List ℕ) (x : ℕ) → IsShort xs → (o : Option ℕ) → record_size (slice_index (xs ++ x ∷ []) 0) ≡ o
    → (o ≡ None → ⊥) → ((n : ℕ) → o ≡ Some n → length (xs ++ x ∷ []) ≡ n → ⊥) → IsShort (xs ++ x ∷ [])
still_short [] x nothing None e some more = absurd (some refl)
still_short [] x nothing (Some n) e some more =
    let positive : 0 < n = size_some x n e in
    let other : 1 ≡ n → ⊥ = more n refl in
    begun n e (omega (arith, positive, other))
still_short (y ∷ ys) x (begun m size short) None e some more = absurd (some refl)
still_short (y ∷ ys) x (begun m size short) (Some n) e some more =
    let same : Some m ≡ Some n = sym size ∙ e in
    let equal : m ≡ n = cc in
    let other : suc (length (ys ++ x ∷ [])) ≡ n → ⊥ = more n refl in
    begun n e (omega (arith, short, equal, other, length-append ys (x ∷ [])))
