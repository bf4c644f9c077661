-- A fetch unit that works for no program has no fetch of any of the four.
use Rattle.std.proofs.Common.{◌≡◌, ℕ, zero, suc, ◌<◌, ◌&&◌, Bool, true, false, Option, Some, None, is_none, refl}
use Rattle.std.proofs.Common.{arith}
use Rattle.std.proofs.Common.{true≢false, sym}
use Rattle.smt_spec.specs.Programs.{Four, is_idle}

-- both are true
both_true : (a b : Bool) → (a && b) ≡ true → (a ≡ true) × (b ≡ true)
both_true true b e = (refl, e)
both_true false b e = absurd (true≢false (sym e))

-- what is none
none_is : {A : Type 0} (o : Option A) → is_none o ≡ true → o ≡ None
none_is None e = refl
none_is (Some x) e = absurd (true≢false (sym e))

-- no program has a fetch
pub idle_of : {W : Type 0} (g : Four W) → is_idle g ≡ true → (p : ℕ) → p < 4 → (g.own p).fetching ≡ None
idle_of g e p l =
    let a = both_true (is_none (g.own 0).fetching) _ e in
    let b = both_true (is_none (g.own 1).fetching) _ a.1 in
    let c = both_true (is_none (g.own 2).fetching) _ b.1 in
    by p l (none_is _ a.0) (none_is _ b.0) (none_is _ c.0) (none_is _ c.1)
  where
    by : (q : ℕ) → q < 4 → (g.own 0).fetching ≡ None → (g.own 1).fetching ≡ None → (g.own 2).fetching ≡ None
        → (g.own 3).fetching ≡ None → (g.own q).fetching ≡ None
    by zero m a b c d = a
    by (suc zero) m a b c d = b
    by (suc (suc zero)) m a b c d = c
    by (suc (suc (suc zero))) m a b c d = d
    by (suc (suc (suc (suc q)))) m a b c d = absurd (omega (arith, m))
