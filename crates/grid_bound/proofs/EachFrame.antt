-- Conditions on each of some frames, and the frame of a number among them.
use Rattle.std.specs.List.{list_any}
use Rattle.std.proofs.Common.{◌≡◌, ◌≢◌, ℕ, zero, suc, ◌+◌, ◌<◌, Bool, true, false, cond, ◌==◌, ◌||◌, ◌&&◌, not, List}
use Rattle.std.proofs.Common.{[]}
use Rattle.std.proofs.Common.{◌∷◌, ◌++◌, Option, Some, None, refl, sym, ap, ap₂, ◌∙◌, subst, true≢false, arith}
use Rattle.std.proofs.lemmas.Bool.Decides.{nat_tests}
use Rattle.commit_flush_spec.specs.Frames.{Frame}
use Rattle.commit_flush_spec.specs.Older.{Older, after, after_all}
use Rattle.commit_flush_spec.specs.Causes.{Cause, Happened, Done, NotNow}
use Rattle.commit_flush_spec.specs.Window.{on_frame, change, in_flight}
use Rattle.commit_flush_spec.specs.inside.Laws.{AreNumbers}
use Rattle.commit_flush_spec.proofs.Look.{or_false}
use Rattle.commit_flush_spec.proofs.Numbers.{nums}
use Rattle.commit_flush_spec.proofs.Bits.{answer_at, change_at}
use Rattle.grid_cycle_spec.specs.Grid.{is_of}
use Rattle.grid_cycle_spec.specs.Choosing.{least, found_in, eldest, with_frame}
use Rattle.grid_bound.specs.inside.Rule.{EachFrame, runs_in}

-- numbers ----------------------------------------------------------------------------------------

-- a number equals itself, as the test tells
pub same : (n : ℕ) → (n == n) ≡ true
same n = grind (arith, nat_tests)

-- the test of equal numbers tells that they are equal
pub equal : (m n : ℕ) → (m == n) ≡ true → m ≡ n
equal m n e = grind (arith, nat_tests)

-- different numbers fail the test
pub apart : (m n : ℕ) → m ≢ n → (m == n) ≡ false
apart m n ne = go (m == n) refl
  where
    go : (b : Bool) → (m == n) ≡ b → (m == n) ≡ false
    go true e = absurd (ne (equal m n e))
    go false e = e

-- numbers that test as not equal differ
pub differ : (m n : ℕ) → (m == n) ≡ false → m ≢ n
differ m n e z = true≢false (sym (same n) ∙ ap (λ k. k == n) (sym z) ∙ e)

pub turned : (m n : ℕ) → (m == n) ≡ false → (n == m) ≡ false
turned m n e = apart n m (λ z. differ m n e (sym z))

-- each -------------------------------------------------------------------------------------------

module _ (P : Frame → Type 0) where
  -- what holds of each frame holds of each of the first ones
  pub each_front : (fs gs : List Frame) → EachFrame P (fs ++ gs) → EachFrame P fs
  each_front [] gs h = tt
  each_front (f ∷ fs) gs h = (h.0, each_front fs gs h.1)

  -- what holds of each frame holds of each of the last ones
  pub each_rest : (fs gs : List Frame) → EachFrame P (fs ++ gs) → EachFrame P gs
  each_rest [] gs h = h
  each_rest (f ∷ fs) gs h = each_rest fs gs h.1

  -- what holds of each frame of two lists holds of each of both together
  pub each_join : (fs gs : List Frame) → EachFrame P fs → EachFrame P gs → EachFrame P (fs ++ gs)
  each_join [] gs h k = k
  each_join (f ∷ fs) gs h k = (h.0, each_join fs gs h.1 k)

module _ (P Q : Frame → Type 0) where
  -- what holds of each frame, and has something else follow, has this hold of each
  pub each_map : ((f : Frame) → P f → Q f) → (fs : List Frame) → EachFrame P fs → EachFrame Q fs
  each_map h [] e = tt
  each_map h (f ∷ fs) e = (h f e.0, each_map h fs e.1)

  -- of frames of other numbers
  pub each_other : (n : ℕ) → ((f : Frame) → f.number ≢ n → P f → Q f) → (fs : List Frame) → in_flight n fs ≡ false
      → EachFrame P fs → EachFrame Q fs
  each_other n h [] e k = tt
  each_other n h (f ∷ fs) e k =
      let o = or_false (f.number == n) (in_flight n fs) e in
      (h f (differ f.number n o.0) k.0, each_other n h fs o.1 k.1)

  -- of frames whose numbers pass no test
  pub each_left : (gone : ℕ → Bool) → ((f : Frame) → gone f.number ≡ false → P f → Q f) → (fs : List Frame)
      → EachFrame (λ f. gone f.number ≡ false) fs → EachFrame P fs → EachFrame Q fs
  each_left gone h [] e k = tt
  each_left gone h (f ∷ fs) e k = (h f e.0 k.0, each_left gone h fs e.1 k.1)

-- in flight --------------------------------------------------------------------------------------

-- a number is in flight where it is one of the numbers
pub any_flight : (n : ℕ) (fs : List Frame) → list_any (λ m. m == n) (nums fs) ≡ in_flight n fs
any_flight n [] = refl
any_flight n (f ∷ fs) = ap (λ b. (f.number == n) || b) (any_flight n fs)

-- a frame of a number is among some frames exactly where this number is in flight
pub of_flight : (n : ℕ) (fs : List Frame) → is_of fs n ≡ in_flight n fs
of_flight n [] = refl
of_flight n (f ∷ fs) = ap (λ b. (f.number == n) || b) (of_flight n fs)

or_assoc : (a b c : Bool) → ((a || b) || c) ≡ (a || (b || c))
or_assoc true b c = refl
or_assoc false b c = refl

-- a number is in flight in two lists together where it is in one of them
pub flight_join : (n : ℕ) (fs gs : List Frame) → in_flight n (fs ++ gs) ≡ (in_flight n fs || in_flight n gs)
flight_join n [] gs = refl
flight_join n (f ∷ fs) gs = ap (λ b. (f.number == n) || b) (flight_join n fs gs)
    ∙ sym (or_assoc (f.number == n) (in_flight n fs) (in_flight n gs))

-- a frame runs in two lists where it runs in one of them
pub runs_join : (n : ℕ) (fs gs : List Frame) → runs_in n (fs ++ gs) ≡ (runs_in n fs || runs_in n gs)
runs_join n [] gs = refl
runs_join n (f ∷ fs) gs = ap (λ b. ((f.number == n) && not f.sealed) || b) (runs_join n fs gs)
    ∙ sym (or_assoc ((f.number == n) && not f.sealed) (runs_in n fs) (runs_in n gs))

and_false : (a b : Bool) → a ≡ false → (a && b) ≡ false
and_false true b e = absurd (true≢false e)
and_false false b e = refl

-- a frame that is not in flight does not run
pub runs_flight : (n : ℕ) (fs : List Frame) → in_flight n fs ≡ false → runs_in n fs ≡ false
runs_flight n [] e = refl
runs_flight n (f ∷ fs) e =
    let o = or_false (f.number == n) (in_flight n fs) e in
    ap₂ (λ a b. a || b) (and_false (f.number == n) (not f.sealed) o.0) (runs_flight n fs o.1)

-- a frame that runs is in flight
pub runs_are : (n : ℕ) (fs : List Frame) → runs_in n fs ≡ true → in_flight n fs ≡ true
runs_are n fs e = go (in_flight n fs) refl
  where
    go : (b : Bool) → in_flight n fs ≡ b → in_flight n fs ≡ true
    go true i = i
    go false i = absurd (true≢false (sym e ∙ runs_flight n fs i))

and_none : (a : Bool) → (a && false) ≡ false
and_none true = refl
and_none false = refl

-- whether a frame of another number runs is asked of the frames behind
pub runs_one : (m : ℕ) (f : Frame) (gs : List Frame) → f.number ≢ m → runs_in m (f ∷ gs) ≡ runs_in m gs
runs_one m f gs d = ap (λ b. (b && not f.sealed) || runs_in m gs) (apart f.number m d)

-- a frame among others, which have other numbers
pub record FrameAt (n : ℕ) (fs : List Frame) : Type 0 where
  pub older : List Frame
  pub frame : Frame
  pub younger : List Frame
  pub split : fs ≡ older ++ frame ∷ younger
  pub number : frame.number ≡ n
  pub before : in_flight n older ≡ false
  pub behind : in_flight n younger ≡ false

-- a frame behind some, where no two numbers are the same
pub split_at : (older : List Frame) (f : Frame) (younger : List Frame) → AreNumbers (nums (older ++ f ∷ younger))
    → (in_flight f.number older ≡ false) × (in_flight f.number younger ≡ false)
split_at [] f younger h = (refl, sym (any_flight f.number younger) ∙ h.1)
split_at (g ∷ older) f younger h =
    let r = split_at older f younger h.2 in
    let none : in_flight g.number (older ++ f ∷ younger) ≡ false =
    sym (any_flight g.number (older ++ f ∷ younger)) ∙ h.1 in
    let parts = or_false (in_flight g.number older) (in_flight g.number (f ∷ younger))
    (sym (flight_join g.number older (f ∷ younger)) ∙ none) in
    let other = (or_false (f.number == g.number) (in_flight g.number younger) parts.1).0 in
    (ap₂ (λ a b. a || b) (turned f.number g.number other) r.0, r.1)

abbrev pub frame_at : (older : List Frame) (f : Frame) (younger : List Frame) (n : ℕ) → f.number ≡ n
    → AreNumbers (nums (older ++ f ∷ younger)) → FrameAt n (older ++ f ∷ younger)
frame_at older f younger n e h =
    let k = split_at older f younger h in
    record {
      older = older;
      frame = f;
      younger = younger;
      split = refl;
      number = e;
      before = ap (λ m. in_flight m older) (sym e) ∙ k.0;
      behind = ap (λ m. in_flight m younger) (sym e) ∙ k.1;
    }

-- the same frame by its own number
abbrev pub own_at : (n : ℕ) (fs : List Frame) (a : FrameAt n fs) → FrameAt a.frame.number fs
own_at n fs a = record {
  older = a.older;
  frame = a.frame;
  younger = a.younger;
  split = a.split;
  number = refl;
  before = ap (λ m. in_flight m a.older) a.number ∙ a.before;
  behind = ap (λ m. in_flight m a.younger) a.number ∙ a.behind;
}

-- another frame of that number in its place
abbrev pub moved_at : (n : ℕ) (fs : List Frame) (a : FrameAt n fs) (f : Frame) → f.number ≡ n
    → FrameAt n (a.older ++ f ∷ a.younger)
moved_at n fs a f e = record {
  older = a.older;
  frame = f;
  younger = a.younger;
  split = refl;
  number = e;
  before = a.before;
  behind = a.behind;
}

-- each of the others stays as it was
pub each_step : (P Q : Frame → Type 0) (n : ℕ) (fs : List Frame) (a : FrameAt n fs) (g : Frame)
    → ((f : Frame) → f.number ≢ n → P f → Q f) → Q g → EachFrame P fs → EachFrame Q (a.older ++ g ∷ a.younger)
each_step P Q n fs a g h now e =
    let was : EachFrame P (a.older ++ a.frame ∷ a.younger) = subst (EachFrame P) a.split e in
    each_join Q a.older (g ∷ a.younger)
    (each_other P Q n h a.older a.before (each_front P a.older (a.frame ∷ a.younger) was))
    (now, each_other P Q n h a.younger a.behind (each_rest P a.older (a.frame ∷ a.younger) was).1)

-- a number that another frame in its place does not have runs where it ran
pub runs_step : (n m : ℕ) (fs : List Frame) (a : FrameAt n fs) (g : Frame) → g.number ≡ n → m ≢ n
    → runs_in m (a.older ++ g ∷ a.younger) ≡ false → runs_in m fs ≡ false
runs_step n m fs a g number d e =
    let parts = or_false (runs_in m a.older) (runs_in m (g ∷ a.younger))
    (sym (runs_join m a.older (g ∷ a.younger)) ∙ e) in
    ap (runs_in m) a.split ∙ runs_join m a.older (a.frame ∷ a.younger)
    ∙ ap₂ (λ x y. x || y) parts.0 (runs_one m a.frame a.younger (λ z. d (sym z ∙ a.number))
    ∙ sym (runs_one m g a.younger (λ z. d (sym z ∙ number))) ∙ parts.1)

-- a frame that is sealed does not run
pub sealed_rests : (n : ℕ) (fs : List Frame) (a : FrameAt n fs) → a.frame.sealed ≡ true → runs_in n fs ≡ false
sealed_rests n fs a e =
    ap (runs_in n) a.split ∙ runs_join n a.older (a.frame ∷ a.younger)
    ∙ ap₂ (λ x y. x || y) (runs_flight n a.older a.before)
    (ap (λ s. ((a.frame.number == n) && not s) || runs_in n a.younger) e
    ∙ ap₂ (λ x y. x || y) (and_none (a.frame.number == n)) (runs_flight n a.younger a.behind))

-- one more frame before
abbrev more_at : (n : ℕ) (g : Frame) (fs : List Frame) → (g.number == n) ≡ false → FrameAt n fs → FrameAt n (g ∷ fs)
more_at n g fs e a = record {
  older = g ∷ a.older;
  frame = a.frame;
  younger = a.younger;
  split = ap (λ l. g ∷ l) a.split;
  number = a.number;
  before = ap₂ (λ x y. x || y) e a.before;
  behind = a.behind;
}

-- a number in flight has a frame there, with older and younger ones
pub find_at : (n : ℕ) (fs : List Frame) → AreNumbers (nums fs) → in_flight n fs ≡ true → FrameAt n fs
find_at n [] h e = absurd (true≢false (sym e))
find_at n (f ∷ fs) h e = go (f.number == n) refl e (find_at n fs h.2)
  where
    go : (b : Bool) → (f.number == n) ≡ b → (b || in_flight n fs) ≡ true → (in_flight n fs ≡ true → FrameAt n fs)
        → FrameAt n (f ∷ fs)
    go true i k rest = frame_at [] f fs n (equal f.number n i) h
    go false i k rest = more_at n f fs i (rest k)

-- what is done with a frame ----------------------------------------------------------------------

-- what is done with the frame of a number is done with the one that stands there
pub with_at : {A : Type 0} (n : ℕ) (does : Frame → A → A) (fs : List Frame) (a : FrameAt n fs) (g : A)
    → with_frame n does fs g ≡ does a.frame g
with_at n does fs a g = ap (λ l. with_frame n does l g) a.split ∙ skip a.older a.before
  where
    skip : (xs : List Frame) → in_flight n xs ≡ false
        → with_frame n does (xs ++ a.frame ∷ a.younger) g ≡ does a.frame g
    skip [] e = ap (λ b. cond b (does a.frame g) (with_frame n does a.younger g))
        (ap (λ k. k == n) a.number ∙ same n)
    skip (x ∷ xs) e =
        let o = or_false (x.number == n) (in_flight n xs) e in
        ap (λ b. cond b (does x g) (with_frame n does (xs ++ a.frame ∷ a.younger) g)) o.0 ∙ skip xs o.1

-- with no frame of a number nothing is done
pub with_none : {A : Type 0} (n : ℕ) (does : Frame → A → A) (fs : List Frame) (g : A) → in_flight n fs ≡ false
    → with_frame n does fs g ≡ g
with_none n does [] g e = refl
with_none n does (f ∷ fs) g e =
    let o = or_false (f.number == n) (in_flight n fs) e in
    ap (λ b. cond b (does f g) (with_frame n does fs g)) o.0 ∙ with_none n does fs g o.1

-- a change of the frame
pub changed_at : (does : Older → Frame → List Frame → List Frame) (o : Older) (n : ℕ) (fs : List Frame)
    (a : FrameAt n fs)
    → change does o fs n ≡ a.older ++ does (after_all a.older o) a.frame a.younger
changed_at does o n fs a =
    ap₂ (λ l m. change does o l m) a.split (sym a.number)
    ∙ change_at does a.older o a.frame a.younger (ap (λ m. in_flight m a.older) a.number ∙ a.before)

-- what the frame is answered
pub answered_at : (none : Happened) (can : Older → Frame → Happened) (o : Older) (n : ℕ) (fs : List Frame)
    (a : FrameAt n fs) → on_frame none can o fs n ≡ can (after_all a.older o) a.frame
answered_at none can o n fs a =
    ap₂ (λ l m. on_frame none can o l m) a.split (sym a.number)
    ∙ answer_at none can a.older o a.frame a.younger (ap (λ m. in_flight m a.older) a.number ∙ a.before)

-- an event of a frame that is done has its frame in flight
pub done_flight : (c : Cause) (can : Older → Frame → Happened) (o : Older) (fs : List Frame) (n : ℕ)
    → on_frame (NotNow c) can o fs n ≡ Done → in_flight n fs ≡ true
done_flight c can o [] n e = absurd (cc)
done_flight c can o (f ∷ fs) n e = go (f.number == n) e (done_flight c can (after f o) fs n)
  where
    go : (b : Bool) → cond b (can o f) (on_frame (NotNow c) can (after f o) fs n) ≡ Done
        → (on_frame (NotNow c) can (after f o) fs n ≡ Done → in_flight n fs ≡ true) → (b || in_flight n fs) ≡ true
    go true k rest = refl
    go false k rest = rest k

-- the eldest -------------------------------------------------------------------------------------

pub least_is : (test : ℕ → Bool) (n k j : ℕ) → least test n k ≡ Some j → (test j ≡ true) × (j < k + n)
least_is test zero k j e = absurd (cc)
least_is test (suc n) k j e = go (test k) refl e (least_is test n (suc k) j)
  where
    go : (b : Bool) → test k ≡ b → cond b (Some k) (least test n (suc k)) ≡ Some j
        → (least test n (suc k) ≡ Some j → (test j ≡ true) × (j < suc k + n))
        → (test j ≡ true) × (j < k + suc n)
    go true i h rest =
        let it : k ≡ j = cc in
        (sym (ap test it) ∙ i, (omega (arith, it)))
    go false i h rest = let r = rest h in (r.0, (let l = r.1 in omega (arith, l)))

-- none of the numbers passes
pub least_none : (test : ℕ → Bool) (n k : ℕ) → least test n k ≡ None → (i : ℕ) → i < n → test (k + i) ≡ false
least_none test zero k e i l = absurd (omega arith)
least_none test (suc n) k e i l = go (test k) refl e (least_none test n (suc k))
  where
    go : (b : Bool) → test k ≡ b → cond b (Some k) (least test n (suc k)) ≡ None
        → (least test n (suc k) ≡ None → (j : ℕ) → j < n → test (suc k + j) ≡ false) → test (k + i) ≡ false
    go true z h rest = absurd (cc)
    go false z h rest = first i l
      where
        first : (j : ℕ) → j < suc n → test (k + j) ≡ false
        first zero m = let it : k + 0 ≡ k = omega arith in ap test it ∙ z
        first (suc j) m = let it : k + suc j ≡ suc k + j = omega arith in ap test it ∙ rest h j (omega arith)

-- the frame and the number that have been chosen
pub record Chosen (test : Frame → ℕ → Bool) (n : ℕ) (fs : List Frame) (q : ℕ × ℕ) : Type 0 where
  pub there : FrameAt q.0 fs
  pub passes : test there.frame q.1 ≡ true
  pub below : q.1 < n

-- the eldest choice is of a frame in flight and of a number that passes there
pub eldest_is : (test : Frame → ℕ → Bool) (n : ℕ) (fs : List Frame) (q : ℕ × ℕ) → AreNumbers (nums fs)
    → eldest test n fs ≡ Some q → Chosen test n fs q
eldest_is test n [] q h e = absurd (cc)
eldest_is test n (f ∷ fs) q h e = go (least (test f) n 0) refl e (eldest_is test n fs q h.2)
  where
    in_rest : Chosen test n fs q → Chosen test n (f ∷ fs) q
    in_rest c =
        let a = c.there in
        let here : in_flight q.0 fs ≡ true = ap (in_flight q.0) a.split
        ∙ flight_join q.0 a.older (a.frame ∷ a.younger)
        ∙ or_right (in_flight q.0 a.older) (ap (λ b. b || in_flight q.0 a.younger)
        (ap (λ k. k == q.0) a.number ∙ same q.0)) in
        let other : (f.number == q.0) ≡ false = apart f.number q.0 (λ z. true≢false (sym here
        ∙ ap (λ k. in_flight k fs) (sym z) ∙ sym (any_flight f.number fs) ∙ h.1)) in
        record {
          there = more_at q.0 f fs other c.there;
          passes = c.passes;
          below = c.below;
        }
      where
        or_right : (x : Bool) {y : Bool} → y ≡ true → (x || y) ≡ true
        or_right true i = refl
        or_right false i = i

    go : (o : Option ℕ) → least (test f) n 0 ≡ o → found_in f o (eldest test n fs) ≡ Some q
        → (eldest test n fs ≡ Some q → Chosen test n fs q) → Chosen test n (f ∷ fs) q
    go None i k rest = in_rest (rest k)
    go (Some j) i k rest =
        let pair : (f.number, j) ≡ q = cc in
        let l = least_is (test f) n 0 j i in
        subst (λ p. Chosen test n (f ∷ fs) p) pair (record {
          there = frame_at [] f fs f.number refl h;
          passes = l.0;
          below = let m = l.1 in omega (arith, m);
        })

-- where none has been chosen no number of any frame passes
pub eldest_none : (test : Frame → ℕ → Bool) (n : ℕ) (fs : List Frame) → eldest test n fs ≡ None
    → EachFrame (λ f. (j : ℕ) → j < n → test f j ≡ false) fs
eldest_none test n [] e = tt
eldest_none test n (f ∷ fs) e = go (least (test f) n 0) refl e (eldest_none test n fs)
  where
    go : (o : Option ℕ) → least (test f) n 0 ≡ o → found_in f o (eldest test n fs) ≡ None
        → (eldest test n fs ≡ None → EachFrame (λ f. (j : ℕ) → j < n → test f j ≡ false) fs)
        → EachFrame (λ f. (j : ℕ) → j < n → test f j ≡ false) (f ∷ fs)
    go None i k rest = (
      λ j l. let z : 0 + j ≡ j = omega arith in ap (test f) (sym z) ∙ least_none (test f) n 0 i j l,
      rest k,
    )
    go (Some j) i k rest = absurd (cc)
