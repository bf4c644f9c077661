-- The frame of a number: where it stands, what it is asked, and what it sees.
use Rattle.std.proofs.Common.{◌≡◌, ◌≢◌, ℕ, zero, suc, ◌+◌, ◌<◌, ◌≤◌, Bool, true, false, cond, ◌==◌}
use Rattle.std.proofs.Common.{◌||◌, List, [], ◌∷◌}
use Rattle.std.proofs.Common.{Option, Some, None, length, take, slice_get, refl, sym, ap}
use Rattle.std.proofs.Common.{◌∙◌, subst, arith, true≢false}
use Rattle.trips_isa.specs.declared.block.Block.{Block}
use Rattle.commit_flush_spec.specs.Causes.{Happened}
use Rattle.commit_flush_spec.specs.Frames.{Frame, at}
use Rattle.commit_flush_spec.specs.Older.{Older, after, after_all}
use Rattle.commit_flush_spec.specs.InFlight.{on_frame, is_sealed}
use Rattle.commit_flush_spec.specs.inside.Numbered.{before, by_age, seen_at, AllThere}
use Rattle.commit_flush_spec.specs.inside.Invariant.{FrameOk, FramesOk, AllGood, IsRunnable}
use Rattle.commit_flush_spec.specs.inside.Laws.{IsFree, AllFree}
use Rattle.commit_flush_spec.proofs.Lists.{equal_or}
use Rattle.std.proofs.Common.{◌⊎◌, inl, inr}
use Rattle.reg_bank.specs.inside.Ages.{Ages}
use Rattle.commit_flush.specs.Places.{numbers_of}
use Rattle.commit_flush.specs.inside.Places.{later, age_of, frame_of}
use Rattle.commit_flush.specs.inside.Kept.{is_in, AreKept}
use Rattle.commit_flush.proofs.NumberTests.{equal_is, is_equal, apart}
use Rattle.commit_flush.proofs.OrderFacts.{after_more}

-- by number --------------------------------------------------------------------------------------

module _ (slots : List (Option Frame)) (named : (m : ℕ) (f : Frame) → at slots m ≡ Some f → f.number ≡ m)
    (n : ℕ) where
  -- an order without a number has no frame of it
  missing : (order : List ℕ) → AllThere slots order → is_in n order ≡ false → frame_of n (by_age slots order) ≡ None
  missing [] t e = refl
  missing (m ∷ ms) t e = go (m == n) refl e (missing ms t.1)
    where
      go : (b : Bool) → (m == n) ≡ b → (b || is_in n ms) ≡ false
          → (is_in n ms ≡ false → frame_of n (by_age slots ms) ≡ None)
          → frame_of n (before (at slots m) (by_age slots ms)) ≡ None
      go true z w rest = absurd (cc)
      go false z w rest =
          ap (λ h. frame_of n (before h (by_age slots ms))) t.0.1
          ∙ ap (λ b. cond b (Some t.0.0) (frame_of n (by_age slots ms)))
          (ap (λ k. k == n) (named m t.0.0 t.0.1) ∙ z)
          ∙ rest w

  -- one with it has what stands there
  found : (order : List ℕ) → AllThere slots order → is_in n order ≡ true
      → frame_of n (by_age slots order) ≡ at slots n
  found [] t e = absurd (cc)
  found (m ∷ ms) t e = go (m == n) refl e (found ms t.1)
    where
      go : (b : Bool) → (m == n) ≡ b → (b || is_in n ms) ≡ true
          → (is_in n ms ≡ true → frame_of n (by_age slots ms) ≡ at slots n)
          → frame_of n (before (at slots m) (by_age slots ms)) ≡ at slots n
      go true z w rest =
          ap (λ h. frame_of n (before h (by_age slots ms))) t.0.1
          ∙ ap (λ b. cond b (Some t.0.0) (frame_of n (by_age slots ms)))
          (ap (λ k. k == n) (named m t.0.0 t.0.1) ∙ z)
          ∙ sym t.0.1 ∙ ap (at slots) (equal_is m n z)
      go false z w rest =
          ap (λ h. frame_of n (before h (by_age slots ms))) t.0.1
          ∙ ap (λ b. cond b (Some t.0.0) (frame_of n (by_age slots ms)))
          (ap (λ k. k == n) (named m t.0.0 t.0.1) ∙ z)
          ∙ rest w

-- the frame of a number stands at it
pub stands : (slots : List (Option Frame)) (order : List ℕ) (registers : Ages) → AreKept slots order registers
    → (n : ℕ)
    → frame_of n (by_age slots order) ≡ at slots n
stands slots order registers k n = go (is_in n order) refl
  where
    go : (b : Bool) → is_in n order ≡ b → frame_of n (by_age slots order) ≡ at slots n
    go true e = found slots k.numbered n order k.there e
    go false e = missing slots k.numbered n order k.there e ∙ sym (k.empty n e)

-- asked ------------------------------------------------------------------------------------------

module _ (none : Happened) (can : Older → Frame → Happened) (n : ℕ) where
  -- without a frame of a number the answer is `none`
  pub none_asked : (fs : List Frame) (o : Older) → frame_of n fs ≡ None → on_frame none can o fs n ≡ none
  none_asked [] o e = refl
  none_asked (f ∷ fs) o e = go (f.number == n) e (none_asked fs (after f o))
    where
      go : (b : Bool) → cond b (Some f) (frame_of n fs) ≡ None
          → (frame_of n fs ≡ None → on_frame none can (after f o) fs n ≡ none)
          → cond b (can o f) (on_frame none can (after f o) fs n) ≡ none
      go true w rest = absurd (cc)
      go false w rest = rest w

  -- the frame of a number is asked, with what it sees
  pub one_asked : (fs : List Frame) (o : Older) (f : Frame) → frame_of n fs ≡ Some f
      → on_frame none can o fs n ≡ can (seen_at o fs n) f
  one_asked [] o f e = absurd (cc)
  one_asked (g ∷ gs) o f e = go (g.number == n) e (one_asked gs (after g o) f)
    where
      go : (b : Bool) → cond b (Some g) (frame_of n gs) ≡ Some f
          → (frame_of n gs ≡ Some f → on_frame none can (after g o) gs n ≡ can (seen_at (after g o) gs n) f)
          → cond b (can o g) (on_frame none can (after g o) gs n) ≡ can (cond b o (seen_at (after g o) gs n)) f
      go true w rest = let same : g ≡ f = cc in ap (can o) same
      go false w rest = rest w

-- by age -----------------------------------------------------------------------------------------

-- a frame in flight has an age
pub has_age : (n : ℕ) (fs : List Frame) (f : Frame) → frame_of n fs ≡ Some f
    → (a : ℕ) × (age_of n fs ≡ Some a) × (slice_get fs a ≡ Some f)
has_age n [] f e = absurd (cc)
has_age n (g ∷ gs) f e = go (g.number == n) refl e (has_age n gs f)
  where
    go : (b : Bool) → (g.number == n) ≡ b → cond b (Some g) (frame_of n gs) ≡ Some f
        → (frame_of n gs ≡ Some f → (a : ℕ) × (age_of n gs ≡ Some a) × (slice_get gs a ≡ Some f))
        → (a : ℕ) × (cond (g.number == n) (Some 0) (later (age_of n gs)) ≡ Some a) × (slice_get (g ∷ gs) a ≡ Some f)
    go true z w rest = (0, ap (λ b. cond b (Some 0) (later (age_of n gs))) z, w)
    go false z w rest =
        let r = rest w in
        (suc r.0, ap (λ b. cond b (Some 0) (later (age_of n gs))) z ∙ ap later r.1, r.2)

-- and what has an age is in flight
pub of_age : (n : ℕ) (fs : List Frame) (a : ℕ) → age_of n fs ≡ Some a → frame_of n fs ≡ slice_get fs a
of_age n [] a e = absurd (cc)
of_age n (g ∷ gs) a e = go (g.number == n) e (age_of n gs) refl (λ k q. of_age n gs k q)
  where
    go : (b : Bool) → cond b (Some 0) (later (age_of n gs)) ≡ Some a → (p : Option ℕ) → age_of n gs ≡ p
        → ((k : ℕ) → age_of n gs ≡ Some k → frame_of n gs ≡ slice_get gs k)
        → cond b (Some g) (frame_of n gs) ≡ slice_get (g ∷ gs) a
    go true w p q rest = let here : 0 ≡ a = cc in ap (slice_get (g ∷ gs)) here
    go false w None q rest = absurd (let bad : None ≡ Some a = sym (ap later q) ∙ w in cc)
    go false w (Some k) q rest =
        let both : Some (suc k) ≡ Some a = sym (ap later q) ∙ w in
        let here : suc k ≡ a = cc in
        rest k q ∙ ap (slice_get (g ∷ gs)) here

-- a number without an age has no frame in flight
pub no_age : (n : ℕ) (fs : List Frame) → age_of n fs ≡ None → frame_of n fs ≡ None
no_age n [] e = refl
no_age n (g ∷ gs) e = go (g.number == n) e (age_of n gs) refl (no_age n gs)
  where
    go : (b : Bool) → cond b (Some 0) (later (age_of n gs)) ≡ None → (p : Option ℕ) → age_of n gs ≡ p
        → (age_of n gs ≡ None → frame_of n gs ≡ None) → cond b (Some g) (frame_of n gs) ≡ None
    go true w p q rest = absurd (cc)
    go false w None q rest = rest q
    go false w (Some k) q rest = absurd (let bad : Some (suc k) ≡ None = sym (ap later q) ∙ w in cc)

-- the oldest frame is the one of the first number
pub oldest : (fs : List Frame) (n : ℕ) → slice_get (numbers_of fs) 0 ≡ Some n → frame_of n fs ≡ slice_get fs 0
oldest [] n e = absurd (cc)
oldest (f ∷ fs) n e =
    let same : f.number ≡ n = cc in ap (λ b. cond b (Some f) (frame_of n fs)) (is_equal f.number n same)

-- where no number is the oldest frame's, no frame is in flight
pub none_oldest : (fs : List Frame) → slice_get (numbers_of fs) 0 ≡ None → fs ≡ []
none_oldest [] e = refl
none_oldest (f ∷ fs) e = absurd (cc)

-- what is seen behind all frames is what is seen behind the youngest
pub youngest : (fs : List Frame) (o : Older) (a : ℕ) (f : Frame) → slice_get fs a ≡ Some f → length fs ≡ suc a
    → after_all fs o ≡ after f (after_all (take a fs) o)
youngest fs o a f e l = ap (λ xs. after_all xs o) (whole fs (suc a) (omega arith)) ∙ after_more fs o a f e
  where
    whole : (xs : List Frame) (k : ℕ) → length xs ≤ k → xs ≡ take k xs
    whole [] zero l = refl
    whole [] (suc k) l = refl
    whole (x ∷ xs) zero l = absurd (omega arith)
    whole (x ∷ xs) (suc k) l = ap (λ ys. x ∷ ys) (whole xs k (omega arith))

-- what stands of a frame ---------------------------------------------------------------------------

-- the frame of each age is right
pub frame_ok : (blocks : List Block) (fs : List Frame) (o : Older) → FramesOk blocks o fs → (a : ℕ) (f : Frame)
    → slice_get fs a ≡ Some f → FrameOk blocks (after_all (take a fs) o) f
frame_ok blocks [] o ok a f e = absurd (cc)
frame_ok blocks (g ∷ gs) o ok zero f e = let same : g ≡ f = cc in subst (FrameOk blocks o) same ok.2
frame_ok blocks (g ∷ gs) o ok (suc a) f e = frame_ok blocks gs (after g o) ok.3 a f e

-- its block may run
pub runnable : (blocks : List Block) → AllGood blocks → (fs : List Frame) (o : Older) → FramesOk blocks o fs → (n : ℕ)
    (f : Frame) → frame_of n fs ≡ Some f → IsRunnable f.code
runnable blocks good fs o ok n f e =
    let a = has_age n fs f e in good f.block f.code (frame_ok blocks fs o ok a.0 f a.2).code

-- no token on its way finds another one
pub free_at : (fs : List Frame) → AllFree fs → (a : ℕ) (f : Frame) → slice_get fs a ≡ Some f → IsFree f
free_at [] h a f e = absurd (cc)
free_at (g ∷ gs) h zero f e = let same : g ≡ f = cc in subst IsFree same h.0
free_at (g ∷ gs) h (suc a) f e = free_at gs h.1 a f e
