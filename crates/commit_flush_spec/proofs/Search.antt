-- Searching for the least number, the first of several events, and causes that do not hold.
use Rattle.std.proofs.Common.{◌≡◌, ◌≢◌, ℕ, zero, suc, ◌+◌, ◌<◌, ◌≤◌, Bool, true, false, cond, ◌==◌, ◌⊎◌}
use Rattle.std.proofs.Common.{inl, inr, Option, Some, None, is_some, is_none, refl, sym, ap, ◌∙◌, arith}
use Rattle.trips_isa.specs.Tables.{or_else}
use Rattle.commit_flush_spec.specs.Causes.{Cause, Happened, Done, NotNow}
use Rattle.commit_flush_spec.specs.Ends.{all_below}
use Rattle.commit_flush_spec.specs.Window.{Event}
use Rattle.commit_flush_spec.proofs.Committing.{both_true}
use Rattle.block_cases.proofs.Alike.{both_true as both_are}
use Rattle.commit_flush_spec.specs.inside.NextEvent.{is_done, lowest, event_of}

-- flags and options ------------------------------------------------------------------------------

-- a test is true or false
pub true_or : (b : Bool) → (b ≡ true) ⊎ (b ≡ false)
true_or true = inl refl
true_or false = inr refl

-- what is not none is some
pub some_is : {A : Type 0} (t : Option A) → t ≢ None → is_some t ≡ true
some_is None n = absurd (n refl)
some_is (Some v) n = refl

-- what tests as something is not nothing
pub is_there : {A : Type 0} (t : Option A) → is_some t ≡ true → t ≢ None
is_there None e = absurd (cc)
is_there (Some v) e = λ z. cc

-- what is not none fails the test for none
pub not_none : {A : Type 0} (t : Option A) → t ≢ None → is_none t ≡ false
not_none None n = absurd (n refl)
not_none (Some v) n = refl

-- what tests as nothing is nothing
pub none_is : {A : Type 0} (t : Option A) → is_none t ≡ true → t ≡ None
none_is None e = refl
none_is (Some v) e = absurd (cc)

-- where neither of two is there, the first is not and the second is not
pub or_none : {A : Type 0} (t u : Option A) → or_else t u ≡ None → (t ≡ None) × (u ≡ None)
or_none None u e = (refl, e)
or_none (Some v) u e = absurd (cc)

-- what is there of two is the first or the second
pub or_some : {A : Type 0} (t u : Option A) (v : A) → or_else t u ≡ Some v → (t ≡ Some v) ⊎ (u ≡ Some v)
or_some None u v e = inr e
or_some (Some x) u v e = inl e

-- the least number -------------------------------------------------------------------------------

-- the number that is found passes the test and lies in the range
pub lowest_is : (test : ℕ → Bool) (n k j : ℕ) → lowest test n k ≡ Some j → (test j ≡ true) × (j < k + n)
lowest_is test zero k j e = absurd (cc)
lowest_is test (suc n) k j e = go (test k) refl e (lowest_is test n (suc k) j)
  where
    go : (b : Bool) → test k ≡ b → cond b (Some k) (lowest test n (suc k)) ≡ Some j
        → (lowest test n (suc k) ≡ Some j → (test j ≡ true) × (j < suc k + n))
        → (test j ≡ true) × (j < k + suc n)
    go true i h rest =
        let same : k ≡ j = cc in
        (sym (ap test same) ∙ i, (omega (arith, same)))
    go false i h rest = let r = rest h in (r.0, (let l = r.1 in omega (arith, l)))

-- where none is found, none of the range passes the test
pub lowest_none : (test : ℕ → Bool) (n k : ℕ) → lowest test n k ≡ None → (j : ℕ) → k ≤ j → j < k + n
    → test j ≡ false
lowest_none test zero k e j l m = absurd (omega arith)
lowest_none test (suc n) k e j l m = go (test k) refl e (λ h a b. lowest_none test n (suc k) h j a b)
  where
    go : (b : Bool) → test k ≡ b → cond b (Some k) (lowest test n (suc k)) ≡ None
        → (lowest test n (suc k) ≡ None → suc k ≤ j → j < suc k + n → test j ≡ false) → test j ≡ false
    go true i h rest = absurd (cc)
    go false i h rest = at_k (k == j) refl
      where
        at_k : (c : Bool) → (k == j) ≡ c → test j ≡ false
        at_k true z = let same : k ≡ j = grind arith in sym (ap test same) ∙ i
        at_k false z =
            let other : k ≢ j = λ y. let bad : (k == j) ≡ true = grind (arith, y) in absurd (cc) in
            rest h (omega arith) (omega arith)

-- where there is no event of a number, there is no number
pub event_none : (make : ℕ → Event) (t : Option ℕ) → event_of make t ≡ None → t ≡ None
event_none make None e = refl
event_none make (Some k) e = absurd (cc)

-- an event of a number is made of a number that is there
pub event_is : (make : ℕ → Event) (t : Option ℕ) (e : Event) → event_of make t ≡ Some e
    → (k : ℕ) × (t ≡ Some k) × (e ≡ make k)
event_is make None e h = absurd (cc)
event_is make (Some k) e h = (k, refl, (let same : make k ≡ e = cc in sym same))

-- every number below -----------------------------------------------------------------------------

-- where each number below n passes a test, all do
pub all_from : (p : ℕ → Bool) (n : ℕ) → ((k : ℕ) → k < n → p k ≡ true) → all_below p n ≡ true
all_from p zero h = refl
all_from p (suc n) h = both_are _ _ (h n (omega arith)) (all_from p n (λ k l. h k (omega arith)))

-- where all numbers below n pass a test, each does
pub each_of : (p : ℕ → Bool) (n k : ℕ) → all_below p n ≡ true → k < n → p k ≡ true
each_of p zero k e l = absurd (omega arith)
each_of p (suc n) k e l = go (k == n) refl (λ lt. each_of p n k (both_true _ _ e).1 lt)
  where
    go : (b : Bool) → (k == n) ≡ b → (k < n → p k ≡ true) → p k ≡ true
    go true i rest = let same : k ≡ n = grind arith in ap p same ∙ (both_true _ _ e).0
    go false i rest =
        let other : k ≢ n = λ z. let bad : (k == n) ≡ true = grind (arith, z) in absurd (cc) in
        rest (omega arith)

-- where all numbers below n pass a test, and what passes it passes a second one, all pass the second
pub all_up : (p q : ℕ → Bool) (n : ℕ) → ((k : ℕ) → k < n → p k ≡ true → q k ≡ true) → all_below p n ≡ true
    → all_below q n ≡ true
all_up p q n h e = all_from q n (λ k l. h k l (each_of p n k e l))

-- causes -----------------------------------------------------------------------------------------

-- a cause that does not hold lets through what is done
pub clear : (b : Bool) (c : Cause) (h : Happened) → b ≡ false → h ≡ Done → cond b (NotNow c) h ≡ Done
clear true c h e d = absurd (cc)
clear false c h e d = d

-- the test of an answer tells that it is done
pub done_is : (h : Happened) → is_done h ≡ true → h ≡ Done
done_is Done e = refl
done_is (NotNow c) e = absurd (cc)
