-- Line feeds before a place, byte by byte.
use Rattle.std.proofs.Common.{◌≡◌, ℕ, suc, ◌+◌, ◌-◌, ◌<◌, List, ◌∷◌, take, drop, ap₂, sym, ◌∙◌, arith}
use Rattle.trips_listing_text.specs.Functions.{feed, feeds}

-- a byte more before the place
pub feeds_on : (line at i b whole : ℕ) (text : List ℕ) → i < at → drop i text ≡ b ∷ drop (i + 1) text
    → line + feeds (take (at - i) (drop i text)) ≡ whole
    → (line + feed b) + feeds (take (at - (i + 1)) (drop (i + 1) text)) ≡ whole
feeds_on line at i b whole text l d h =
    let m = at - (i + 1) in
    let e : at - i ≡ suc m = omega (arith, l) in
    let s = ap₂ (λ (n : ℕ) (xs : List ℕ). feeds (take n xs)) e d in
    omega (arith, s, h)
