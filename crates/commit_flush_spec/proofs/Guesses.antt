-- A frame whose loads were not guessed stays so, and no store of its own finds a load of it wrong.
use Rattle.std.proofs.Common.{◌≡◌, ◌≢◌, ℕ, zero, suc, ◌+◌, ◌<◌, ◌≤◌, Bool, true, false, cond, not, ◌&&◌, ◌||◌, ◌==◌}
use Rattle.std.proofs.Common.{inl, inr, List, [], ◌∷◌, Option, Some, None, set, length, is_some, is_none, refl, sym}
use Rattle.std.proofs.Common.{ap, ap₂, ◌∙◌, subst, nat_lt, arith}
use Rattle.std.proofs.lemmas.Bool.Decides.{nat_tests}
use Rattle.trips_isa.specs.declared.block.Stored.{Stored}
use Rattle.trips_isa.specs.Places.{in_mask}
use Rattle.commit_flush_spec.specs.Frames.{Frame, Taken, NoBytes, Bytes, at, numbers}
use Rattle.commit_flush_spec.specs.Older.{covers, nearest, any_touched, took_touched, violated}
use Rattle.commit_flush_spec.specs.Ends.{all_below, store_came}
use Rattle.commit_flush_spec.specs.inside.Invariant.{Below}
use Rattle.commit_flush_spec.proofs.Lists.{equal_or, other_at, set_over, there_below}
use Rattle.block_cases.proofs.Steady.{or_right}
use Rattle.commit_flush_spec.specs.inside.NextEvent.{stores_came}
use Rattle.commit_flush_spec.specs.inside.Work.{none_guessed}
use Rattle.commit_flush_spec.proofs.Search.{is_there, not_none, each_of, all_up}
use Rattle.commit_flush_spec.proofs.Stuck.{numbers_are}

or_up : (a b c : Bool) → (b ≡ true → c ≡ true) → (a || b) ≡ true → (a || c) ≡ true
or_up true b c h e = refl
or_up false b c h e = h e

some_up : {A : Type 0} (t u : Option A) → Below t u → is_some t ≡ true → is_some u ≡ true
some_up None u h e = absurd (cc)
some_up (Some v) u h e = ap is_some (sym h)

-- more stores have come -------------------------------------------------------------------------

module _ (f : Frame) (n : ℕ) (s : Option Stored) (open' : at f.stores n ≡ None) where
  over : (k : ℕ) → Below (at f.stores k) (at (set f.stores n s) k)
  over k = set_over f.stores n s (subst (λ t. Below t s) (sym open') tt) k

  still_came : (k : ℕ) → store_came f k ≡ true
      → (not (in_mask f.code.mask k) || is_some (at (set f.stores n s) k)) ≡ true
  still_came k e = or_up (not (in_mask f.code.mask k)) _ _ (some_up (at f.stores k) _ (over k)) e

  -- a store that comes makes no load a guess
  pub stores_keep : (g : Frame) → g.loads ≡ f.loads → g.code ≡ f.code → g.stores ≡ set f.stores n s
      → none_guessed f ≡ true → none_guessed g ≡ true
  stores_keep g l c d e =
      all_up (λ k. is_none (at f.loads k) || stores_came f k) (λ k. is_none (at g.loads k) || stores_came g k) numbers
      (λ k lt h. ap (λ x. is_none (at x k) || stores_came g k) l
      ∙ or_up (is_none (at f.loads k)) (stores_came f k) (stores_came g k)
      (all_up (store_came f) (store_came g) k (λ m lm w.
      ap₂ (λ b xs. not (in_mask b.mask m) || is_some (at xs m)) c d ∙ still_came m w)) h) e

-- a load is answered behind all its stores ------------------------------------------------------

-- a load that is answered behind all its stores is no guess
pub load_keeps : (f : Frame) (n : ℕ) (t : Option Taken) → stores_came f n ≡ true → none_guessed f ≡ true
    → all_below (λ k. is_none (at (set f.loads n t) k) || stores_came f k) numbers ≡ true
load_keeps f n t came e =
    all_up (λ k. is_none (at f.loads k) || stores_came f k) (λ k. is_none (at (set f.loads n t) k) || stores_came f k)
    numbers (λ k l h. elim (equal_or k n) [
      | inl z ↦ or_right (is_none (at (set f.loads n t) k)) _ (ap (stores_came f) z ∙ came)
      | inr z ↦ ap (λ x. is_none x || stores_came f k) (other_at f.loads n k t z) ∙ h
    ]) e

-- no violation ----------------------------------------------------------------------------------

touches_none : (touched : ℕ → Bool) (a z : ℕ) → ((x : ℕ) → touched x ≡ false) → any_touched touched a z ≡ false
touches_none touched a zero h = refl
touches_none touched a (suc z) h = ap₂ (λ x y. x || y) (h (a + z)) (touches_none touched a z h)

took_none : (touched : ℕ → Bool) (t : Option Taken) → (t ≢ None → (x : ℕ) → touched x ≡ false)
    → took_touched touched t ≡ false
took_none touched None h = refl
took_none touched (Some NoBytes) h = refl
took_none touched (Some (Bytes a z)) h = touches_none touched a z (h (λ e. cc))

none_wrong : (touched : ℕ → ℕ → Bool) (ts : List (Option Taken))
    → ((k : ℕ) → at ts k ≢ None → (x : ℕ) → touched k x ≡ false) → violated touched ts ≡ false
none_wrong touched [] h = refl
none_wrong touched (t ∷ ts) h = ap₂ (λ x y. x || y) (took_none (touched 0) t (h 0))
    (none_wrong (λ k. touched (suc k)) ts (λ k. h (suc k)))

and_false : (a b : Bool) → b ≡ false → (a && b) ≡ false
and_false true b e = e
and_false false b e = refl

-- a store is not the nearest to a load of a lower number
not_behind : (st : ℕ → Option Stored) (m k : ℕ) → k ≤ m → (x : ℕ) → nearest st m k x ≡ false
not_behind st m zero l x = refl
not_behind st m (suc k) l x =
    let other : k ≢ m = λ z. absurd (omega (arith, l, z)) in
    let no : (k == m) ≡ false = unequal k m other in
    ap (λ b. cond b (covers (st m) x) (not (covers (st k) x) && nearest st m k x)) no
    ∙ and_false (not (covers (st k) x)) (nearest st m k x) (not_behind st m k (omega (arith, l)) x)
  where
    unequal : (a c : ℕ) → a ≢ c → (a == c) ≡ false
    unequal a c n = go (a == c) refl
      where
        go : (b : Bool) → (a == c) ≡ b → b ≡ false
        go false i = refl
        go true i = let it : a ≡ c = grind arith in absurd (n it)

-- a store that comes finds no load wrong in a frame without guessed loads
pub not_violated : (f : Frame) (n : ℕ) (st : ℕ → Option Stored) → length f.loads ≡ 32 → in_mask f.code.mask n ≡ true
    → at f.stores n ≡ None → none_guessed f ≡ true → violated (nearest st n) f.loads ≡ false
not_violated f n st size e open' sure = none_wrong (nearest st n) f.loads (λ k p. not_behind st n k (low k p))
  where
    low : (k : ℕ) → at f.loads k ≢ None → k ≤ n
    low k p = go (nat_lt n k) refl
      where
        go : (b : Bool) → nat_lt n k ≡ b → k ≤ n
        go false i = grind (arith, nat_tests)
        go true i =
            let lt : n < k = grind (arith, nat_tests) in
            let in' : k < length f.loads = there_below f.loads k p in
            let all = numbers_are in
            let c : (is_none (at f.loads k) || stores_came f k) ≡ true =
            each_of (λ j. is_none (at f.loads j) || stores_came f j) numbers k sure (omega (arith, in', size, all)) in
            let d : stores_came f k ≡ true = sym (ap (λ b. b || stores_came f k) (not_none _ p)) ∙ c in
            let w : store_came f n ≡ true = each_of (store_came f) k n d lt in
            let some : is_some (at f.stores n) ≡ true =
            sym (ap (λ b. not b || is_some (at f.stores n)) e) ∙ w in
            absurd (is_there (at f.stores n) some open')
