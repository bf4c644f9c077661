-- The last of some bytes.
use Rattle.std.proofs.Common.{◌≡◌, ℕ, suc, ◌<◌, ◌-◌, List, [], ◌∷◌, length, get_or, refl, ap, ◌∙◌}
use Rattle.std.proofs.Common.{arith}
use Rattle.trips_isa.specs.Images.{last_byte}

-- the last byte of some bytes stands at one less than their length
pub last_is : (bs : List ℕ) → 0 < length bs → get_or bs (length bs - 1) 0 ≡ last_byte bs
last_is [] l = absurd (omega arith)
last_is (b ∷ []) l = refl
last_is (b ∷ c ∷ bs) l =
    let e : length (b ∷ c ∷ bs) - 1 ≡ suc (length (c ∷ bs) - 1) = omega arith in
    ap (λ (n : ℕ). get_or (b ∷ c ∷ bs) n 0) e ∙ last_is (c ∷ bs) (omega arith)
