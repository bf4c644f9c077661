-- A number stays as it is where its bits hold it.
use Rattle.std.proofs.Common.{◌≡◌, ℕ, ◌+◌, ◌*◌, ◌<◌, ◌≤◌, ◌^◌, arith, true, to_z, of_z, w32, w64}
use Rattle.std.proofs.Common.{SFits, ap, ap₂, refl, ◌∙◌}
use Rattle.std.specs.Prelude.{ℤ, pos, negsuc, ◌*ℤ◌}
use Rattle.std.proofs.lemmas.Int.{to_z-of_z}
use Rattle.std.proofs.lemmas.Nat.{mul-le}
use borrow.Author.Differences.{up, down, fits_in, fits_out, product_is}
use Rattle.flow_fold.specs.inside.Immediates.{is_small}
use Rattle.flow_fold.proofs.ConstantFacts.{small_fits}

-- a small number does
pub small_round : (i : ℤ) → is_small i ≡ true → to_z w32 (of_z w32 i) ≡ i
small_round (pos w) e =
    let l = small_fits (pos w) e in
    let b : w < 2 ^ 31 = omega (arith, l) in
    to_z-of_z w32 (pos w) (record { sfits = b })
small_round (negsuc w) e =
    let l = small_fits (negsuc w) e in
    let b : w < 2 ^ 31 = omega (arith, l) in
    to_z-of_z w32 (negsuc w) (record { sfits = b })

-- the size of a number of 32 bits
size_fits : (z : ℤ) → SFits w32 z → up z + down z ≤ 2 ^ 31
size_fits (pos n) s = let f = fits_out w32 (pos n) s in omega (arith, f)
size_fits (negsuc n) s = let f = fits_out w32 (negsuc n) s in omega (arith, f)

wide : (z : ℤ) → SFits w32 z → SFits w64 z
wide z s = let f = fits_out w32 z s in fits_in w64 z (omega (arith, f))

-- the product of two numbers of 32 bits fits 64
product_fits : (a b : ℤ) → SFits w32 a → SFits w32 b → SFits w64 (a *ℤ b)
product_fits a b s t =
    let l = mul-le (up a + down a) (up b + down b) (2 ^ 31) (2 ^ 31) (size_fits a s) (size_fits b t) in
    let m = product_is a b in
    fits_in w64 (a *ℤ b) (omega (arith, l, m))

pub product_round : (a b : ℤ) → SFits w32 a → SFits w32 b
    → to_z w64 (of_z w64 (to_z w64 (of_z w64 a) *ℤ to_z w64 (of_z w64 b))) ≡ a *ℤ b
product_round a b s t =
    ap (λ (z : ℤ). to_z w64 (of_z w64 z))
    (ap₂ (λ (x y : ℤ). x *ℤ y) (to_z-of_z w64 a (wide a s)) (to_z-of_z w64 b (wide b t)))
    ∙ to_z-of_z w64 (a *ℤ b) (product_fits a b s t)

-- a number that is not below 0 is a whole number
pub not_below : (z : ℤ) → down z ≤ up z → (k : ℕ) × (z ≡ pos k)
not_below (pos k) l = (k, refl)
not_below (negsuc k) l = absurd (omega (arith, l))
