-- Where each of some lengths begins.
use Rattle.std.proofs.Common.{◌≡◌, ℕ, zero, suc, ◌+◌, ◌<◌, List, [], ◌∷◌, length, get_or, ap, ◌∙◌}
use Rattle.std.proofs.Common.{subst, arith}
use Rattle.flat_lower.specs.inside.Objects.{bytes_before}
use Rattle.flat_lower.specs.inside.Emitted.{starts_from}

-- a start in the table is the sum of the lengths before it
found_at : (at : ℕ) (sizes : List ℕ) (i d : ℕ) → i < length (starts_from at sizes)
    → get_or (starts_from at sizes) i d ≡ at + bytes_before sizes i
found_at at (b ∷ bs) zero d h = omega arith
found_at at (b ∷ bs) (suc i) d h =
    let k : get_or (starts_from (at + b) bs) i d ≡ at + b + bytes_before bs i = found_at (at + b) bs i d
    (omega (arith, h)) in
    omega (arith, k)
found_at at [] i d h = absurd (omega (arith, h))

-- and from 0
pub found : (starts sizes : List ℕ) (i x : ℕ) → starts ≡ starts_from 0 sizes → i < length starts
    → x ≡ get_or starts i x → x ≡ bytes_before sizes i
found starts sizes i x h l e =
    let k : get_or (starts_from 0 sizes) i x ≡ 0 + bytes_before sizes i = found_at 0 sizes i x (subst
    (λ s. i < length s) h l) in
    let m : x ≡ get_or (starts_from 0 sizes) i x = e ∙ ap (λ s. get_or s i x) h in
    omega (arith, k, m)
