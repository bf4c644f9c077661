-- The frames in flight by age, one by one, and where the number of each stands.
use Rattle.std.proofs.Common.{◌≡◌, ◌≢◌, ℕ, zero, suc, ◌+◌, ◌<◌, ◌≤◌, ◌⊎◌, inl, inr, Bool, true, false, cond, ◌==◌}
use Rattle.std.proofs.Common.{◌||◌, List, [], ◌∷◌, ◌++◌, Option, Some, None, length, get_or}
use Rattle.std.proofs.Common.{set, map, take, slice_get}
use Rattle.std.proofs.Common.{refl, sym, ap, ap₂, ◌∙◌, subst, arith, true≢false}
use Rattle.std.specs.Prelude.{is_some}
use Rattle.std.specs.List.{list_any}
use Rattle.std.proofs.lemmas.Bool.{cases_lt}
use Rattle.commit_flush_spec.specs.Frames.{Frame, at}
use Rattle.commit_flush_spec.specs.Older.{Older, after, after_all}
use Rattle.commit_flush_spec.specs.InFlight.{in_flight, lowest_empty}
use Rattle.commit_flush_spec.specs.inside.Numbered.{before, by_age, seen_at, AllThere}
use Rattle.commit_flush_spec.specs.inside.Laws.{AreNumbers}
use Rattle.commit_flush_spec.proofs.Lists.{equal_or, other_at, set_here}
use Rattle.commit_flush.specs.Places.{numbers_of}
use Rattle.commit_flush.specs.inside.Places.{later, place_of, age_of, free_number}
use Rattle.commit_flush.specs.inside.Kept.{is_in}
use Rattle.commit_flush.proofs.NumberTests.{equal_is, is_equal, apart, flipped, neither}

-- by age ----------------------------------------------------------------------------------------

-- what stands at a number, if there is one
abbrev pub slot_at : List (Option Frame) → Option ℕ → Option Frame
slot_at slots None = None
slot_at slots (Some n) = at slots n

-- the frame of each age
pub frame_at : (slots : List (Option Frame)) (order : List ℕ) → AllThere slots order → (a : ℕ)
    → slice_get (by_age slots order) a ≡ slot_at slots (slice_get order a)
frame_at slots [] t a = refl
frame_at slots (n ∷ ns) t zero = ap (λ h. slice_get (before h (by_age slots ns)) 0) t.0.1 ∙ sym t.0.1
frame_at slots (n ∷ ns) t (suc a) =
    ap (λ h. slice_get (before h (by_age slots ns)) (suc a)) t.0.1 ∙ frame_at slots ns t.1 a

-- as many frames are in flight as the order has numbers
pub count : (slots : List (Option Frame)) (order : List ℕ) → AllThere slots order
    → length (by_age slots order) ≡ length order
count slots [] t = refl
count slots (n ∷ ns) t = ap (λ h. length (before h (by_age slots ns))) t.0.1 ∙ ap suc (count slots ns t.1)

-- their numbers are those of the order
pub numbers_are : (slots : List (Option Frame)) (order : List ℕ)
    → ((m : ℕ) (f : Frame) → at slots m ≡ Some f → f.number ≡ m) → AllThere slots order
    → numbers_of (by_age slots order) ≡ order
numbers_are slots [] named t = refl
numbers_are slots (n ∷ ns) named t =
    ap (λ h. numbers_of (before h (by_age slots ns))) t.0.1
    ∙ ap₂ (λ x xs. x ∷ xs) (named n t.0.0 t.0.1) (numbers_are slots ns named t.1)

-- the frames of two lists of numbers are those of the first and those of the second
pub by_age_append : (slots : List (Option Frame)) (xs ys : List ℕ)
    → by_age slots (xs ++ ys) ≡ by_age slots xs ++ by_age slots ys
by_age_append slots [] ys = refl
by_age_append slots (n ∷ ns) ys = go (at slots n) (by_age_append slots ns ys)
  where
    go : (h : Option Frame) → by_age slots (ns ++ ys) ≡ by_age slots ns ++ by_age slots ys
        → before h (by_age slots (ns ++ ys)) ≡ before h (by_age slots ns) ++ by_age slots ys
    go None rest = rest
    go (Some f) rest = ap (λ x. f ∷ x) rest

-- a number that the order does not name changes nothing
pub unnamed : (slots : List (Option Frame)) (order : List ℕ) (n : ℕ) (g : Option Frame) → is_in n order ≡ false
    → by_age (set slots n g) order ≡ by_age slots order
unnamed slots [] n g e = refl
unnamed slots (m ∷ order) n g e =
    let p = neither (m == n) (is_in n order) e in
    let other : m ≢ n = λ z. true≢false (sym (is_equal m n z) ∙ p.0) in
    ap₂ before (other_at slots n m g other) (unnamed slots order n g p.1)

-- places ----------------------------------------------------------------------------------------

-- the first place at which a number stands
pub placed : (n : ℕ) (order : List ℕ) (a : ℕ) → ((k : ℕ) → k < a → (get_or order k 0 == n) ≡ false)
    → a < length order → (get_or order a 0 == n) ≡ true → place_of n order ≡ Some a
placed n [] a first l e = absurd (omega arith)
placed n (m ∷ ms) zero first l e = ap (λ b. cond b (Some 0) (later (place_of n ms))) e
placed n (m ∷ ms) (suc a) first l e =
    ap (λ b. cond b (Some 0) (later (place_of n ms))) (first 0 (omega arith))
    ∙ ap later (placed n ms a (λ k h. first (suc k) (omega arith)) (omega arith) e)

-- a number that stands at no place has none
pub not_placed : (n : ℕ) (order : List ℕ) → ((k : ℕ) → k < length order → (get_or order k 0 == n) ≡ false)
    → place_of n order ≡ None
not_placed n [] h = refl
not_placed n (m ∷ ms) h =
    ap (λ b. cond b (Some 0) (later (place_of n ms))) (h 0 (omega arith))
    ∙ ap later (not_placed n ms (λ k l. h (suc k) (omega arith)))

-- at its place a number stands
pub place_is : (n : ℕ) (order : List ℕ) (a : ℕ) → place_of n order ≡ Some a → slice_get order a ≡ Some n
place_is n [] a e = absurd (cc)
place_is n (m ∷ ms) a e = go (m == n) refl e (place_of n ms) refl (λ k q. place_is n ms k q)
  where
    go : (b : Bool) → (m == n) ≡ b → cond b (Some 0) (later (place_of n ms)) ≡ Some a → (p : Option ℕ)
        → place_of n ms ≡ p → ((k : ℕ) → place_of n ms ≡ Some k → slice_get ms k ≡ Some n)
        → slice_get (m ∷ ms) a ≡ Some n
    go true z w p q rest =
        let here : 0 ≡ a = cc in ap (slice_get (m ∷ ms)) (sym here) ∙ ap Some (equal_is m n z)
    go false z w None q rest = absurd (let bad : None ≡ Some a = sym (ap later q) ∙ w in cc)
    go false z w (Some k) q rest =
        let both : Some (suc k) ≡ Some a = sym (ap later q) ∙ w in
        let here : suc k ≡ a = cc in
        ap (slice_get (m ∷ ms)) (sym here) ∙ rest k q

-- a number has a place where it is in the order
pub is_placed : (n : ℕ) (order : List ℕ) → is_some (place_of n order) ≡ is_in n order
is_placed n [] = refl
is_placed n (m ∷ ms) = go (m == n) (is_placed n ms)
  where
    shifted : (p : Option ℕ) → is_some (later p) ≡ is_some p
    shifted None = refl
    shifted (Some a) = refl

    go : (b : Bool) → is_some (place_of n ms) ≡ is_in n ms
        → is_some (cond b (Some 0) (later (place_of n ms))) ≡ (b || is_in n ms)
    go true rest = refl
    go false rest = shifted (place_of n ms) ∙ rest

-- what stands at a place is in the order
pub got_in : (n : ℕ) (order : List ℕ) (a : ℕ) → slice_get order a ≡ Some n → is_in n order ≡ true
got_in n [] a e = absurd (cc)
got_in n (m ∷ ms) zero e =
    let same : m ≡ n = cc in ap (λ b. b || is_in n ms) (is_equal m n same)
got_in n (m ∷ ms) (suc a) e = go (m == n) (got_in n ms a e)
  where
    go : (b : Bool) → is_in n ms ≡ true → (b || is_in n ms) ≡ true
    go true h = refl
    go false h = h

-- a number stands at one place of an order
pub one_place : (order : List ℕ) → AreNumbers order → (a b n : ℕ) → slice_get order a ≡ Some n
    → slice_get order b ≡ Some n → a ≡ b
one_place [] h a b n e d = absurd (cc)
one_place (m ∷ ms) h zero zero n e d = refl
one_place (m ∷ ms) h zero (suc b) n e d =
    let same : m ≡ n = cc in
    absurd (true≢false (sym (got_in n ms b d) ∙ ap (λ k. is_in k ms) (sym same) ∙ h.1))
one_place (m ∷ ms) h (suc a) zero n e d =
    let same : m ≡ n = cc in
    absurd (true≢false (sym (got_in n ms a e) ∙ ap (λ k. is_in k ms) (sym same) ∙ h.1))
one_place (m ∷ ms) h (suc a) (suc b) n e d = ap suc (one_place ms h.2 a b n e d)

-- what stands at a place is a number of the eight
pub number_below : (order : List ℕ) → AreNumbers order → (a n : ℕ) → slice_get order a ≡ Some n → n < 8
number_below [] h a n e = absurd (cc)
number_below (m ∷ ms) h zero n e = let same : m ≡ n = cc in subst (λ k. k < 8) same h.0
number_below (m ∷ ms) h (suc a) n e = number_below ms h.2 a n e

-- frames in flight ------------------------------------------------------------------------------

-- a frame is in flight where its number is among those of the frames
pub flies : (n : ℕ) (fs : List Frame) → in_flight n fs ≡ is_in n (numbers_of fs)
flies n [] = refl
flies n (f ∷ fs) = ap (λ x. (f.number == n) || x) (flies n fs)

-- the lowest number that is not in flight
lowest_found : (k m : ℕ) (fs : List Frame) (n : ℕ) → ((j : ℕ) → m ≤ j → j < n → in_flight j fs ≡ true) → m ≤ n
    → n < m + k → in_flight n fs ≡ false → lowest_empty k m fs ≡ Some n
lowest_found zero m fs n all l h e = absurd (omega arith)
lowest_found (suc k) m fs n all l h e =
    go (in_flight m fs) refl (λ z. lowest_found k (suc m) fs n (λ j p q. all j (omega arith) q) z (omega arith) e)
  where
    go : (b : Bool) → in_flight m fs ≡ b → (suc m ≤ n → lowest_empty k (suc m) fs ≡ Some n)
        → cond b (lowest_empty k (suc m) fs) (Some m) ≡ Some n
    go true z rest = elim (cases_lt m n) [
      | inl p ↦ rest (omega arith)
      | inr p ↦ absurd (let same : n ≡ m = omega arith in
          true≢false (sym z ∙ ap (λ x. in_flight x fs) (sym same) ∙ e))
    ]
    go false z rest = elim (cases_lt m n) [
      | inl p ↦ absurd (true≢false (sym (all m (omega arith) p) ∙ z))
      | inr p ↦ (let same : m ≡ n = omega arith in ap Some same)
    ]

lowest_none : (k m : ℕ) (fs : List Frame) → ((j : ℕ) → m ≤ j → j < m + k → in_flight j fs ≡ true)
    → lowest_empty k m fs ≡ None
lowest_none zero m fs all = refl
lowest_none (suc k) m fs all =
    ap (λ b. cond b (lowest_empty k (suc m) fs) (Some m)) (all m (omega arith) (omega arith))
    ∙ lowest_none k (suc m) fs (λ j p q. all j (omega arith) (omega arith))

-- where all numbers below n are in flight and n is not, n is the lowest free one
pub free_found : (fs : List Frame) (n : ℕ) → ((j : ℕ) → j < n → in_flight j fs ≡ true) → n < 8
    → in_flight n fs ≡ false → free_number fs ≡ Some n
unfolding free_number
free_found fs n all h e = lowest_found 8 0 fs n (λ j p q. all j q) (omega arith) (omega arith) e

-- where all eight numbers are in flight, none is free
pub none_free : (fs : List Frame) → ((j : ℕ) → j < 8 → in_flight j fs ≡ true) → free_number fs ≡ None
unfolding free_number
none_free fs all = lowest_none 8 0 fs (λ j p q. all j (omega arith))

-- the lowest free number is the lowest of eight at which no frame is in flight
pub free_is : (fs : List Frame) → free_number fs ≡ lowest_empty 8 0 fs
unfolding free_number
free_is fs = refl

-- what is seen by age ---------------------------------------------------------------------------

-- what is seen behind one more frame
pub after_more : (fs : List Frame) (o : Older) (a : ℕ) (f : Frame) → slice_get fs a ≡ Some f
    → after_all (take (suc a) fs) o ≡ after f (after_all (take a fs) o)
after_more [] o a f e = absurd (cc)
after_more (g ∷ gs) o zero f e = let same : g ≡ f = cc in ap (λ h. after h o) same
after_more (g ∷ gs) o (suc a) f e = after_more gs (after g o) a f e

-- what the frame of a number sees stands behind those that are older
pub seen_is : (n : ℕ) (fs : List Frame) (o : Older) (a : ℕ) → age_of n fs ≡ Some a
    → seen_at o fs n ≡ after_all (take a fs) o
seen_is n [] o a e = absurd (cc)
seen_is n (f ∷ fs) o a e =
    go (f.number == n) e (age_of n fs) refl (λ k q. seen_is n fs (after f o) k q)
  where
    go : (b : Bool) → cond b (Some 0) (later (age_of n fs)) ≡ Some a → (p : Option ℕ) → age_of n fs ≡ p
        → ((k : ℕ) → age_of n fs ≡ Some k → seen_at (after f o) fs n ≡ after_all (take k fs) (after f o))
        → cond b o (seen_at (after f o) fs n) ≡ after_all (take a (f ∷ fs)) o
    go true w p q rest = let here : 0 ≡ a = cc in ap (λ k. after_all (take k (f ∷ fs)) o) here
    go false w None q rest = absurd (let bad : None ≡ Some a = sym (ap later q) ∙ w in cc)
    go false w (Some k) q rest =
        let both : Some (suc k) ≡ Some a = sym (ap later q) ∙ w in
        let here : suc k ≡ a = cc in
        rest k q ∙ ap (λ j. after_all (take j (f ∷ fs)) o) here
