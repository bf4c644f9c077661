-- A unit that is busy for a cycle less.
use Rattle.std.proofs.Common.{◌≡◌, ◌≢◌, ℕ, zero, suc, ◌+◌, List, refl, sym, ap, add-one}
use Rattle.smt_spec.specs.Programs.{Four}
use Rattle.smt_spec.specs.Parts.{busy_for, gives, unit_on_of}
use Rattle.smt_spec.specs.Turns.{all_do}

module _ {W : Type 0} (ps : List ℕ) (tile : ℕ) where
  by_more : (left : ℕ) (g : Four W) → unit_on_of ps tile (suc left) g ≡ unit_on_of ps tile (left + 1) g
  by_more left g = ap (λ n. unit_on_of ps tile n g) (sym (add-one left))

  -- in its last cycle a unit gives its result
  pub last_of : (left : ℕ) (g : Four W) → left ≡ 0
      → all_do (gives tile) ps (busy_for tile left g) ≡ unit_on_of ps tile (left + 1) g
  last_of zero g e = by_more zero g
  last_of (suc n) g e = absurd (cc)

  -- in any other it is only busy for a cycle less
  pub less_of : (left : ℕ) (g : Four W) → left ≢ 0 → busy_for tile left g ≡ unit_on_of ps tile (left + 1) g
  less_of zero g n = absurd (n refl)
  less_of (suc left) g n = by_more (suc left) g
