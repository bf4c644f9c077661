-- What an entry asks for.
use Rattle.std.proofs.Common.{◌≡◌, ℕ, zero, suc, ◌-◌, ◌<◌, ◌≤◌, Bool, true, false, cond, nat_lt, List, [], ◌∷◌}
use Rattle.std.proofs.Common.{length, refl}
use Rattle.std.proofs.Common.{arith}
use Rattle.std.specs.Prelude.{slice_index_or}
use Rattle.loop_unroll.specs.inside.Unrolled.{more_turns, asked}

-- none is there
pub asked_past : (ts : List ℕ) (k : ℕ) → length ts ≤ k → asked ts k ≡ 0
asked_past [] k l = refl
asked_past (t ∷ ts) zero l = absurd (omega (arith, l))
asked_past (t ∷ ts) (suc k) l = asked_past ts k (omega (arith, l))

pub asked_at : (ts : List ℕ) (k d : ℕ) → k < length ts → asked ts k ≡ more_turns (slice_index_or ts k d)
asked_at [] k d l = absurd (omega (arith, l))
asked_at (t ∷ ts) zero d l = refl
asked_at (t ∷ ts) (suc k) d l = asked_at ts k d (omega (arith, l))

pub few_turns : (t : ℕ) → t < 8 → more_turns t ≡ t - 1
few_turns t l = go (nat_lt t 8) refl
  where
    go : (c : Bool) → nat_lt t 8 ≡ c → cond c (t - 1) 7 ≡ t - 1
    go true e = refl
    go false e = absurd (grind arith)

pub many_turns : (t : ℕ) → 8 ≤ t → more_turns t ≡ 7
many_turns t l = go (nat_lt t 8) refl
  where
    go : (c : Bool) → nat_lt t 8 ≡ c → cond c (t - 1) 7 ≡ 7
    go true e = absurd (grind arith)
    go false e = refl
