-- Frames that are kept by number stay so under each change of the window.
use Rattle.std.proofs.Common.{◌≡◌, ◌≢◌, ℕ, zero, suc, ◌+◌, ◌<◌, ◌≤◌, ◌⊎◌, inl, inr, Bool, true, false, cond, ◌==◌}
use Rattle.std.proofs.Common.{◌||◌, ◌&&◌, nat_lt, List, [], ◌∷◌, ◌++◌, Option, Some, None, length, set, take, drop}
use Rattle.std.proofs.Common.{slice_get, refl, sym, ap, ap₂, ◌∙◌, subst, arith, true≢false, add-one}
use Rattle.std.specs.List.{list_any}
use Rattle.std.proofs.lemmas.List.{length-set}
use Rattle.trips_isa.specs.declared.block.Token.{Token}
use Rattle.commit_flush_spec.specs.Frames.{Frame, at}
use Rattle.commit_flush_spec.specs.inside.Numbered.{before, by_age, AllThere}
use Rattle.commit_flush_spec.specs.inside.Laws.{AreNumbers}
use Rattle.commit_flush_spec.proofs.Lists.{equal_or, other_at, set_here, given_or, none_at, still_none}
use Rattle.commit_flush_spec.proofs.DropFacts.{take_by_age}
use Rattle.reg_bank.specs.inside.Ages.{Ages, listed, declare, write, drop_from, retire}
use Rattle.reg_bank.specs.declared.answer.Held.TheVariants.{Undeclared, Waiting, Came}
use Rattle.commit_flush.specs.inside.Places.{cleared}
use Rattle.commit_flush.specs.inside.Banked.{held, held_if, banked}
use Rattle.commit_flush.specs.inside.Kept.{is_in, AreKept, AreApart}
use Rattle.commit_flush.proofs.NumberTests.{equal_is, is_equal, apart, flipped, are_apart, neither, not_below}
use Rattle.commit_flush.proofs.NumberTests.{not_below_is}
use Rattle.commit_flush.proofs.OrderFacts.{slot_at, frame_at, count, by_age_append, unnamed, got_in, one_place}
use Rattle.commit_flush.proofs.CountFacts.{at_most_eight}
use Rattle.commit_flush.proofs.BankFacts.{one_more, first_ones, none_past}

-- one frame changes ------------------------------------------------------------------------------

module _ (slots : List (Option Frame)) (n : ℕ) (f g : Frame) (here : at slots n ≡ Some f) (l : n < length slots) where
  there_set : (order : List ℕ) → AllThere slots order → AllThere (set slots n (Some g)) order
  there_set [] t = tt
  there_set (m ∷ ms) t = (
    elim (equal_or m n) [
      | inl e ↦ (g, ap (at (set slots n (Some g))) e ∙ set_here slots n (Some g) l)
      | inr ne ↦ (t.0.0, other_at slots n m (Some g) ne ∙ t.0.1)
    ],
    there_set ms t.1,
  )

  -- a register of what stands at a number, where that number is not n
  other_held : (o : Option ℕ) (r : ℕ) → (o ≡ Some n → ⊥)
      → held_if (slot_at (set slots n (Some g)) o) r ≡ held_if (slot_at slots o) r
  other_held None r ne = refl
  other_held (Some m) r ne = ap (λ h. held_if h r) (other_at slots n m (Some g) (λ z. ne (ap Some z)))

  -- and where it is
  own_held : (o : Option ℕ) (r : ℕ) → o ≡ Some n
      → (held_if (slot_at (set slots n (Some g)) o) r ≡ held g r) × (held_if (slot_at slots o) r ≡ held f r)
  own_held o r e = (
    ap (λ p. held_if (slot_at (set slots n (Some g)) p) r) e ∙ ap (λ h. held_if h r) (set_here slots n (Some g) l),
    ap (λ p. held_if (slot_at slots p) r) e ∙ ap (λ h. held_if h r) here,
  )

-- which of two cases holds of a number that an order may have at a place
at_or : (o : Option ℕ) (n : ℕ) → (o ≡ Some n) ⊎ (o ≡ Some n → ⊥)
at_or None n = inr (λ e. cc)
at_or (Some m) n = elim (equal_or m n) [ inl e ↦ inl (ap Some e) | inr ne ↦ inr (λ e. ne (cc)) ]

-- a number at which a frame stands is in the order
pub in_order : (slots : List (Option Frame)) (order : List ℕ) (registers : Ages) → AreKept slots order registers
    → (n : ℕ) (f : Frame) → at slots n ≡ Some f → is_in n order ≡ true
in_order slots order registers k n f e = go (is_in n order) refl
  where
    go : (b : Bool) → is_in n order ≡ b → is_in n order ≡ true
    go true z = z
    go false z = absurd (let bad : None ≡ Some f = sym (k.empty n z) ∙ e in cc)

-- the same frames with another one at the number of a frame in flight, and banks that say what it holds
changed_kept : (slots : List (Option Frame)) (order : List ℕ) (old new : Ages) → AreKept slots order old
    → (n : ℕ) (f g : Frame) → at slots n ≡ Some f → n < 8 → g.number ≡ n
    → ((a r : ℕ) → new a r ≡ banked (by_age (set slots n (Some g)) order) a r)
    → AreKept (set slots n (Some g)) order new
changed_kept slots order old new k n f g here l same banks = record {
  eight = length-set slots n (Some g) ∙ k.eight;
  numbered = λ m h e. elim (given_or slots n m (Some g) h e) [
    | inl p ↦ (let both : Some g ≡ Some h = p.1 in let it : g ≡ h = cc in ap (λ (x : Frame). x.number) (sym it) ∙ same
        ∙ sym p.0)
    | inr e ↦ k.numbered m h e
  ];
  there = there_set slots n f g here (let s = k.eight in omega arith) order k.there;
  once = k.once;
  empty = λ m e. other_at slots n m (Some g) (λ z. true≢false
      (sym (in_order slots order old k n f here) ∙ ap (λ x. is_in x order) (sym z) ∙ e)) ∙ k.empty m e;
  banks = banks;
}

-- a change of the frame of a number that leaves its registers
pub alone_kept : (slots : List (Option Frame)) (order : List ℕ) (registers : Ages) → AreKept slots order registers
    → (n : ℕ) (f g : Frame) → at slots n ≡ Some f → n < 8 → g.number ≡ n → ((r : ℕ) → held g r ≡ held f r)
    → AreKept (set slots n (Some g)) order registers
alone_kept slots order registers k n f g here l same regs =
    changed_kept slots order registers registers k n f g here l same (λ a r.
    k.banks a r ∙ ap (λ h. held_if h r) (frame_at slots order k.there a) ∙ sym (at_age a r)
    ∙ sym (ap (λ h. held_if h r) (frame_at (set slots n (Some g)) order there a)))
  where
    size : n < length slots
    size = let s = k.eight in omega arith

    there : AllThere (set slots n (Some g)) order
    there = there_set slots n f g here size order k.there

    at_age : (a r : ℕ) → held_if (slot_at (set slots n (Some g)) (slice_get order a)) r
        ≡ held_if (slot_at slots (slice_get order a)) r
    at_age a r = elim (at_or (slice_get order a) n) [
      | inl e ↦ (let p = own_held slots n f g here size (slice_get order a) r e in p.0 ∙ regs r ∙ sym p.1)
      | inr ne ↦ other_held slots n f g here size (slice_get order a) r ne
    ]

-- a token that comes to a register of the frame of a number
pub write_kept : (slots : List (Option Frame)) (order : List ℕ) (old new : Ages) → AreKept slots order old
    → (n : ℕ) (f g : Frame) → at slots n ≡ Some f → n < 8 → g.number ≡ n
    → (age q : ℕ) (t : Token) → slice_get order age ≡ Some n
    → ((r : ℕ) → held g r ≡ cond (r == q) (Came t) (held f r))
    → ((a r : ℕ) → new a r ≡ write old age q t a r) → AreKept (set slots n (Some g)) order new
write_kept slots order old new k n f g here l same age q t place regs writes =
    changed_kept slots order old new k n f g here l same (λ a r.
    writes a r ∙ at_age a r ∙ sym (ap (λ h. held_if h r) (frame_at (set slots n (Some g)) order there a)))
  where
    size : n < length slots
    size = let s = k.eight in omega arith

    there : AllThere (set slots n (Some g)) order
    there = there_set slots n f g here size order k.there

    was : (a r : ℕ) → old a r ≡ held_if (slot_at slots (slice_get order a)) r
    was a r = k.banks a r ∙ ap (λ h. held_if h r) (frame_at slots order k.there a)

    at_age : (a r : ℕ) → cond (a == age && r == q) (Came t) (old a r)
        ≡ held_if (slot_at (set slots n (Some g)) (slice_get order a)) r
    at_age a r = elim (at_or (slice_get order a) n) [
      | inl e ↦ (let p = own_held slots n f g here size (slice_get order a) r e in
          let its : a ≡ age = one_place order k.once a age n e place in
          ap (λ b. cond (b && r == q) (Came t) (old a r)) (is_equal a age its)
          ∙ ap (λ h. cond (r == q) (Came t) h) (was a r ∙ p.1) ∙ sym (regs r) ∙ sym p.0)
      | inr ne ↦ (let other : a ≢ age = λ z. ne (ap (slice_get order) z ∙ place) in
          ap (λ b. cond (b && r == q) (Came t) (old a r)) (apart a age other) ∙ was a r
          ∙ sym (other_held slots n f g here size (slice_get order a) r ne))
    ]

-- one more frame ---------------------------------------------------------------------------------

there_more : (slots : List (Option Frame)) (n : ℕ) (g : Frame) (order : List ℕ) → is_in n order ≡ false
    → AllThere slots order → AllThere (set slots n (Some g)) order
there_more slots n g [] e t = tt
there_more slots n g (m ∷ ms) e t =
    let p = neither (m == n) (is_in n ms) e in
    ((t.0.0, other_at slots n m (Some g) (are_apart m n p.0) ∙ t.0.1), there_more slots n g ms p.1 t.1)

there_append : (slots : List (Option Frame)) (xs ys : List ℕ) → AllThere slots xs → AllThere slots ys
    → AllThere slots (xs ++ ys)
there_append slots [] ys t u = u
there_append slots (x ∷ xs) ys t u = (t.0, there_append slots xs ys t.1 u)

in_append : (n : ℕ) (xs ys : List ℕ) → is_in n (xs ++ ys) ≡ (is_in n xs || is_in n ys)
in_append n [] ys = refl
in_append n (x ∷ xs) ys = go (x == n) (in_append n xs ys)
  where
    go : (b : Bool) → is_in n (xs ++ ys) ≡ (is_in n xs || is_in n ys)
        → (b || is_in n (xs ++ ys)) ≡ ((b || is_in n xs) || is_in n ys)
    go true rest = refl
    go false rest = rest

once_append : (xs : List ℕ) (n : ℕ) → AreNumbers xs → n < 8 → is_in n xs ≡ false → AreNumbers (xs ++ n ∷ [])
once_append [] n h l e = (l, refl, tt)
once_append (x ∷ xs) n h l e =
    let p = neither (x == n) (is_in n xs) e in
    (h.0, in_append x xs (n ∷ []) ∙ ap₂ (λ a b. a || (b || false)) h.1 (flipped x n p.0), once_append xs n h.2 l p.1)

-- a frame at a number that is empty, as the youngest
pub fetch_kept : (slots : List (Option Frame)) (order : List ℕ) (old new : Ages) → AreKept slots order old
    → (n : ℕ) (g : Frame) → n < 8 → is_in n order ≡ false → g.number ≡ n → (writes : List ℕ)
    → ((r : ℕ) → held g r ≡ cond (listed writes r) Waiting Undeclared)
    → ((a r : ℕ) → new a r ≡ declare old (length order) writes a r)
    → AreKept (set slots n (Some g)) (order ++ n ∷ []) new
fetch_kept slots order old new k n g l e same writes held_is declares = record {
  eight = length-set slots n (Some g) ∙ k.eight;
  numbered = λ m h w. elim (given_or slots n m (Some g) h w) [
    | inl p ↦ (let both : Some g ≡ Some h = p.1 in let it : g ≡ h = cc in ap (λ (x : Frame). x.number) (sym it) ∙ same
        ∙ sym p.0)
    | inr w ↦ k.numbered m h w
  ];
  there = there_append (set slots n (Some g)) order (n ∷ []) (there_more slots n g order e k.there)
      ((g, set_here slots n (Some g) size), tt);
  once = once_append order n k.once l e;
  empty = λ m w.
      let p = neither (is_in m order) (is_in m (n ∷ [])) (sym (in_append m order (n ∷ [])) ∙ w) in
      let other : m ≢ n = λ z. are_apart n m (neither (n == m) false p.1).0 (sym z) in
      other_at slots n m (Some g) other ∙ k.empty m p.0;
  banks = λ a r. declares a r ∙ at_age a r ∙ sym (ap (λ fs. banked fs a r) by_age_is);
}
  where
    size : n < length slots
    size = let s = k.eight in omega arith

    by_age_is : by_age (set slots n (Some g)) (order ++ n ∷ []) ≡ by_age slots order ++ g ∷ []
    by_age_is =
        by_age_append (set slots n (Some g)) order (n ∷ [])
        ∙ ap₂ (λ xs h. xs ++ before h []) (unnamed slots order n (Some g) e) (set_here slots n (Some g) size)

    at_age : (a r : ℕ) → declare old (length order) writes a r ≡ banked (by_age slots order ++ g ∷ []) a r
    at_age a r = elim (equal_or a (length order)) [
      | inl z ↦ ap (λ b. cond b (cond (listed writes r) Waiting Undeclared) (old a r))
          (is_equal a (length order) z) ∙ sym (held_is r)
          ∙ sym (one_more (by_age slots order) g a r
          ∙ ap (λ b. cond b (held g r) (banked (by_age slots order) a r))
          (is_equal a (length (by_age slots order)) (z ∙ sym (count slots order k.there))))
      | inr ne ↦ ap (λ b. cond b (cond (listed writes r) Waiting Undeclared) (old a r))
          (apart a (length order) ne) ∙ k.banks a r
          ∙ sym (one_more (by_age slots order) g a r
          ∙ ap (λ b. cond b (held g r) (banked (by_age slots order) a r))
          (apart a (length (by_age slots order)) (λ z. ne (z ∙ count slots order k.there))))
    ]

-- frames that go ---------------------------------------------------------------------------------

cleared_size : (ys : List ℕ) (slots : List (Option Frame)) → length (cleared ys slots) ≡ length slots
cleared_size [] slots = refl
cleared_size (y ∷ ys) slots = cleared_size ys (set slots y None) ∙ length-set slots y None

-- what is not cleared stays
not_cleared : (ys : List ℕ) (slots : List (Option Frame)) (m : ℕ) → is_in m ys ≡ false
    → at (cleared ys slots) m ≡ at slots m
not_cleared [] slots m e = refl
not_cleared (y ∷ ys) slots m e =
    let p = neither (y == m) (is_in m ys) e in
    not_cleared ys (set slots y None) m p.1 ∙ other_at slots y m None (λ z. are_apart y m p.0 (sym z))

-- an empty number stays so
stays_clear : (ys : List ℕ) (slots : List (Option Frame)) (m : ℕ) → at slots m ≡ None → at (cleared ys slots) m ≡ None
stays_clear [] slots m e = e
stays_clear (y ∷ ys) slots m e = stays_clear ys (set slots y None) m (still_none slots y m e)

-- what is cleared is empty
is_cleared : (ys : List ℕ) (slots : List (Option Frame)) (m : ℕ) → is_in m ys ≡ true → at (cleared ys slots) m ≡ None
is_cleared [] slots m e = absurd (cc)
is_cleared (y ∷ ys) slots m e = go (y == m) refl e (is_cleared ys (set slots y None) m)
  where
    go : (b : Bool) → (y == m) ≡ b → (b || is_in m ys) ≡ true
        → (is_in m ys ≡ true → at (cleared ys (set slots y None)) m ≡ None)
        → at (cleared ys (set slots y None)) m ≡ None
    go true z w rest =
        stays_clear ys (set slots y None) m (ap (at (set slots y None)) (sym (equal_is y m z)) ∙ none_at slots y)
    go false z w rest = rest w

there_left : (slots : List (Option Frame)) (ys xs : List ℕ) → AreApart xs ys → AllThere slots xs
    → AllThere (cleared ys slots) xs
there_left slots ys [] h t = tt
there_left slots ys (x ∷ xs) h t = (
  (t.0.0, not_cleared ys slots x (h x (ap (λ b. b || is_in x xs) (is_equal x x refl))) ∙ t.0.1),
  there_left slots ys xs (λ n e. h n (or_true (x == n) (is_in n xs) e)) t.1,
)
  where
    or_true : (a b : Bool) → b ≡ true → (a || b) ≡ true
    or_true true b e = refl
    or_true false b e = e

pub by_age_left : (slots : List (Option Frame)) (ys xs : List ℕ) → AreApart xs ys
    → by_age (cleared ys slots) xs ≡ by_age slots xs
by_age_left slots ys [] h = refl
by_age_left slots ys (x ∷ xs) h =
    ap₂ before (not_cleared ys slots x (h x (ap (λ b. b || is_in x xs) (is_equal x x refl))))
    (by_age_left slots ys xs (λ n e. h n (or_true (x == n) (is_in n xs) e)))
  where
    or_true : (a b : Bool) → b ≡ true → (a || b) ≡ true
    or_true true b e = refl
    or_true false b e = e

-- the frames of some numbers are left where those of all others go
left_kept : (slots : List (Option Frame)) (order : List ℕ) (old new : Ages) → AreKept slots order old
    → (xs ys : List ℕ) → AllThere slots xs → AreNumbers xs → AreApart xs ys
    → ((n : ℕ) → is_in n xs ≡ false → is_in n ys ≡ false → is_in n order ≡ false)
    → ((a r : ℕ) → new a r ≡ banked (by_age slots xs) a r) → AreKept (cleared ys slots) xs new
left_kept slots order old new k xs ys t h d rest banks = record {
  eight = cleared_size ys slots ∙ k.eight;
  numbered = λ m f e. k.numbered m f (was m f e (is_in m ys) refl);
  there = there_left slots ys xs d t;
  once = h;
  empty = λ m e. gone m e (is_in m ys) refl;
  banks = λ a r. banks a r ∙ sym (ap (λ fs. banked fs a r) (by_age_left slots ys xs d));
}
  where
    was : (m : ℕ) (f : Frame) → at (cleared ys slots) m ≡ Some f → (b : Bool) → is_in m ys ≡ b → at slots m ≡ Some f
    was m f e true z = absurd (let bad : None ≡ Some f = sym (is_cleared ys slots m z) ∙ e in cc)
    was m f e false z = sym (not_cleared ys slots m z) ∙ e

    gone : (m : ℕ) → is_in m xs ≡ false → (b : Bool) → is_in m ys ≡ b → at (cleared ys slots) m ≡ None
    gone m e true z = is_cleared ys slots m z
    gone m e false z = not_cleared ys slots m z ∙ k.empty m (rest m e z)

-- the first numbers of an order and the others ---------------------------------------------------

once_front : (xs ys : List ℕ) → AreNumbers (xs ++ ys) → AreNumbers xs
once_front [] ys h = tt
once_front (x ∷ xs) ys h =
    (h.0, (neither (is_in x xs) (is_in x ys) (sym (in_append x xs ys) ∙ h.1)).0, once_front xs ys h.2)

apart_parts : (xs ys : List ℕ) → AreNumbers (xs ++ ys) → AreApart xs ys
apart_parts [] ys h n e = absurd (cc)
apart_parts (x ∷ xs) ys h n e = go (x == n) refl e (apart_parts xs ys h.2 n)
  where
    go : (b : Bool) → (x == n) ≡ b → (b || is_in n xs) ≡ true → (is_in n xs ≡ true → is_in n ys ≡ false)
        → is_in n ys ≡ false
    go true z w rest =
        ap (λ k. is_in k ys) (sym (equal_is x n z))
        ∙ (neither (is_in x xs) (is_in x ys) (sym (in_append x xs ys) ∙ h.1)).1
    go false z w rest = rest w

there_front : (slots : List (Option Frame)) (xs ys : List ℕ) → AllThere slots (xs ++ ys) → AllThere slots xs
there_front slots [] ys t = tt
there_front slots (x ∷ xs) ys t = (t.0, there_front slots xs ys t.1)

take_drop : (k : ℕ) (xs : List ℕ) → take k xs ++ drop k xs ≡ xs
take_drop zero xs = refl
take_drop (suc k) [] = refl
take_drop (suc k) (x ∷ xs) = ap (λ ys. x ∷ ys) (take_drop k xs)

-- the frames from an age on go
pub drop_kept : (slots : List (Option Frame)) (order : List ℕ) (old new : Ages) → AreKept slots order old → (k : ℕ)
    → ((a r : ℕ) → new a r ≡ drop_from old k a r) → AreKept (cleared (drop k order) slots) (take k order) new
drop_kept slots order old new kept k drops =
    left_kept slots order old new kept (take k order) (drop k order)
    (there_front slots (take k order) (drop k order) (subst (AllThere slots) (sym (take_drop k order)) kept.there))
    (once_front (take k order) (drop k order) parts) (apart_parts (take k order) (drop k order) parts)
    (λ n e d. ap (is_in n) (sym (take_drop k order)) ∙ in_append n (take k order) (drop k order)
    ∙ ap₂ (λ a b. a || b) e d)
    (λ a r. drops a r ∙ ap (λ h. cond (nat_lt a k) h Undeclared) (kept.banks a r)
    ∙ sym (ap (λ fs. banked fs a r) (sym (take_by_age slots order k kept.there))
    ∙ first_ones (by_age slots order) k a r))
  where
    parts : AreNumbers (take k order ++ drop k order)
    parts = subst AreNumbers (sym (take_drop k order)) kept.once

-- from the eighth age on there is nothing to forget
pub none_to_drop : (slots : List (Option Frame)) (order : List ℕ) (registers : Ages) → AreKept slots order registers
    → (k : ℕ) → 8 ≤ k → (a r : ℕ) → registers a r ≡ drop_from registers k a r
none_to_drop slots order registers kept k l a r = go (nat_lt a k) refl
  where
    go : (b : Bool) → nat_lt a k ≡ b → registers a r ≡ cond b (registers a r) Undeclared
    go true e = refl
    go false e =
        let most : length order ≤ 8 = at_most_eight order kept.once in
        let past : k ≤ a = not_below_is a k e in
        let size : length (by_age slots order) ≡ length order = count slots order kept.there in
        kept.banks a r ∙ none_past (by_age slots order) a r (omega arith)

-- the oldest frame goes
pub retire_kept : (slots : List (Option Frame)) (n : ℕ) (order : List ℕ) (old new : Ages)
    → AreKept slots (n ∷ order) old
    → ((a r : ℕ) → new a r ≡ retire old a r) → AreKept (set slots n None) order new
retire_kept slots n order old new kept retires =
    left_kept slots (n ∷ order) old new kept order (n ∷ []) kept.there.1 kept.once.2
    (λ m e. ap (λ b. b || false)
    (apart n m (λ z. true≢false (sym e ∙ ap (λ x. is_in x order) (sym z) ∙ kept.once.1))))
    (λ m e d. ap₂ (λ a b. a || b) (neither (n == m) false d).0 e)
    (λ a r. retires a r ∙ kept.banks (a + 1) r ∙ ap (λ b. banked (by_age slots (n ∷ order)) b r) (next a)
    ∙ ap (λ h. banked (before h (by_age slots order)) (suc a) r) kept.there.0.1)
  where
    next : (a : ℕ) → a + 1 ≡ suc a
    next a = omega arith

-- so the frames that are left are those by age
pub oldest_left : (slots : List (Option Frame)) (n : ℕ) (order : List ℕ) (registers : Ages)
    → AreKept slots (n ∷ order) registers → by_age (set slots n None) order ≡ by_age slots order
oldest_left slots n order registers kept = unnamed slots order n None kept.once.1

-- where the frames from age k on are cleared, the frames by age are the first k
pub youngest_left : (slots : List (Option Frame)) (order : List ℕ) (registers : Ages) → AreKept slots order registers
    → (k : ℕ) → by_age (cleared (drop k order) slots) (take k order) ≡ take k (by_age slots order)
youngest_left slots order registers kept k =
    by_age_left slots (drop k order) (take k order) (apart_parts (take k order) (drop k order)
    (subst AreNumbers (sym (take_drop k order)) kept.once))
    ∙ sym (take_by_age slots order k kept.there)

-- one more frame is the youngest
pub youngest_more : (slots : List (Option Frame)) (order : List ℕ) (registers : Ages) → AreKept slots order registers
    → (n : ℕ) (g : Frame) → n < 8 → is_in n order ≡ false
    → by_age (set slots n (Some g)) (order ++ n ∷ []) ≡ by_age slots order ++ g ∷ []
youngest_more slots order registers kept n g l e =
    by_age_append (set slots n (Some g)) order (n ∷ [])
    ∙ ap₂ (λ xs h. xs ++ before h []) (unnamed slots order n (Some g) e)
    (set_here slots n (Some g) (let s = kept.eight in omega arith))
