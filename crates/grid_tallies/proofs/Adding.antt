-- How the numbers of tallies grow.
use Rattle.std.proofs.Common.{◌≡◌, ◌≢◌, ◌<◌, ℕ, ◌+◌, ◌^◌, ◌==◌, ◌⊎◌, inl, inr, Bool, true, false, cond, List, length}
use Rattle.std.proofs.Common.{slice_index_or, slice_set, refl, sym, ap, ◌∙◌, subst, arith, get_or-set_other}
use Rattle.std.proofs.lemmas.Bool.{cases_eq, eq-eqb, ne_eqb}
use Rattle.std.proofs.lemmas.Grind.{get_or-set_at}

-- one number of a row grows, and no other
pub grown : (xs : List ℕ) (p v by : ℕ) → p < length xs
    → (slice_index_or xs p 0 + by < 2 ^ 64 → v ≡ slice_index_or xs p 0 + by) → (m : ℕ)
    → slice_index_or xs m 0 + cond (m == p) by 0 < 2 ^ 64
    → slice_index_or (slice_set xs p v) m 0 ≡ slice_index_or xs m 0 + cond (m == p) by 0
grown xs p v by inside more m room = go (cases_eq m p)
  where
    go : (m ≡ p) ⊎ (m ≢ p)
        → slice_index_or (slice_set xs p v) m 0 ≡ slice_index_or xs m 0 + cond (m == p) by 0
    go (inl e) =
        let is : cond (m == p) by 0 ≡ by = ap (λ b. cond b by 0) (eq-eqb m p e) in
        let same : slice_index_or xs m 0 ≡ slice_index_or xs p 0 = ap (λ k. slice_index_or xs k 0) e in
        let set = get_or-set_at xs p m v 0 e inside in
        let grew : v ≡ slice_index_or xs p 0 + by = more (omega (arith, room, is, same)) in
        omega (arith, set, grew, is, same)
    go (inr ne) =
        let is : cond (m == p) by 0 ≡ 0 = ap (λ b. cond b by 0) (ne_eqb m p ne) in
        let set = get_or-set_other xs p m v 0 ne in
        omega (arith, set, is)
