-- Parcels that come to their end in a tick, and the tokens that they are.
use Rattle.std.proofs.Common.{◌≡◌, ◌≢◌, ℕ, zero, suc, ◌*◌, ◌-◌, ◌<◌, ◌==◌, ◌&&◌, ◌||◌, ◌⊎◌, inl, inr}
use Rattle.std.proofs.Common.{Bool, true, false, cond, not, nat_lt, List, Option, Some, None}
use Rattle.std.proofs.Common.{is_some, set, length, refl}
use Rattle.std.proofs.Common.{sym, ap, ap₂, ◌∙◌, subst, arith, true≢false}
use Rattle.std.proofs.lemmas.Bool.{cond_both, cond-true, cases_eq, ltb-true, ne_eqb}
use Rattle.std.proofs.lemmas.Bool.{eq-eqb, or_right}
use Rattle.operand_net.specs.declared.parcel.Stand.{Stand}
use Rattle.operand_net.specs.declared.parcel.Stand.TheVariants.{Nowhere, Away, Held}
use Rattle.operand_net.specs.declared.parcel.Trip.{Trip}
use Rattle.operand_net.specs.Tick.{link_of, next_of, ticked, any_wants, is_free, wants}
use Rattle.trips_isa.specs.declared.block.Token.{Token}
use Rattle.trips_isa.specs.Rule.{Answer}
use Rattle.commit_flush_spec.specs.Frames.{Frame, Exit, at, is_target}
use Rattle.commit_flush_spec.proofs.Lists.{other_at, set_here}
use Rattle.grid_bound.specs.inside.Course.{Target}
use Rattle.grid_bound.specs.inside.Lane.{any}
use Rattle.grid_bound.specs.inside.Answering.{hits}
use Rattle.grid_bound.specs.inside.Moving.{taken, is_nowhere, landed}
use Rattle.grid_bound.specs.inside.Seen.{has_come}

-- a parcel has come to its end, and is held no longer
abbrev pub due : Stand → Bool
due Nowhere = false
due (Away trip a) = false
due (Held trip zero) = true
due (Held trip (suc h)) = false

-- a parcel that is due is held for no cycle more
pub due_is : (s : Stand) → due s ≡ true → (trip : Trip) × (s ≡ Held trip 0)
due_is Nowhere e = absurd (cc)
due_is (Away trip a) e = absurd (cc)
due_is (Held trip zero) e = (trip, refl)
due_is (Held trip (suc h)) e = absurd (cc)

-- what is not due is not taken
pub not_taken : (s : Stand) → due s ≡ false → taken s ≡ s
not_taken Nowhere e = refl
not_taken (Away trip a) e = refl
not_taken (Held trip zero) e = absurd (cc)
not_taken (Held trip (suc h)) e = refl

-- a tick loses no parcel
pub ticked_there : (free : Bool) (h : ℕ) (s : Stand) → is_nowhere (ticked free h s) ≡ is_nowhere s
ticked_there free h Nowhere = refl
ticked_there free h (Held trip zero) = refl
ticked_there free h (Held trip (suc k)) = refl
ticked_there free h (Away trip a) = cond_both (a == trip.to) (Held trip h)
    (cond free (cond (next_of a trip.to == trip.to) (Held trip h) (Away trip (next_of a trip.to))) (Away trip a))
    (λ s. is_nowhere s ≡ false) (λ e. refl)
    (λ e. cond_both free (cond (next_of a trip.to == trip.to) (Held trip h) (Away trip (next_of a trip.to)))
    (Away trip a) (λ s. is_nowhere s ≡ false)
    (λ e. cond_both (next_of a trip.to == trip.to) (Held trip h) (Away trip (next_of a trip.to))
    (λ s. is_nowhere s ≡ false) (λ e. refl) (λ e. refl)) (λ e. refl))

-- what does not test as nowhere is somewhere
pub there_is : (s : Stand) → is_nowhere s ≡ false → s ≢ Nowhere
there_is Nowhere e = absurd (cc)
there_is (Away trip a) e = λ z. cc
there_is (Held trip h) e = λ z. cc

-- what is somewhere does not test as nowhere
pub not_there : (s : Stand) → s ≢ Nowhere → is_nowhere s ≡ false
not_there Nowhere n = absurd (n refl)
not_there (Away trip a) n = refl
not_there (Held trip h) n = refl

-- what is due was there before
pub due_there : (free : Bool) (h : ℕ) (s : Stand) → due (ticked free h s) ≡ true → s ≢ Nowhere
due_there free h s e z = let bad : due (ticked free h s) ≡ false = ap (λ s. due (ticked free h s)) z in
    true≢false (sym e ∙ bad)

still : (s : Stand) → is_nowhere s ≡ false → due s ≡ false → is_nowhere (taken s) ≡ false
still Nowhere e d = absurd (cc)
still (Away trip a) e d = refl
still (Held trip zero) e d = absurd (cc)
still (Held trip (suc h)) e d = refl

-- what is not due does not land
pub not_landed : (free : Bool) (h : ℕ) (s : Stand) (o : Option Target) (q : ℕ) → due (ticked free h s) ≡ false
    → landed s (taken (ticked free h s)) o q ≡ false
not_landed free h s o q e = go (is_nowhere s) refl
  where
    go : (b : Bool) → is_nowhere s ≡ b
        → (not b && (is_nowhere (taken (ticked free h s)) && hits o q)) ≡ false
    go true z = refl
    go false z = ap (λ b. b && hits o q) (still (ticked free h s) (ticked_there free h s ∙ z) e)

-- what is due lands where it goes
pub has_landed : (free : Bool) (h : ℕ) (s : Stand) (o : Option Target) (q : ℕ) → due (ticked free h s) ≡ true
    → landed s (taken (ticked free h s)) o q ≡ hits o q
has_landed free h s o q e =
    let d = due_is (ticked free h s) e in
    ap₂ (λ b x. not b && (is_nowhere (taken x) && hits o q)) (not_there s (due_there free h s e)) d.1

-- links hang on the lower places alone
any_same : (n : ℕ) (r q : ℕ → Stand) (l : ℕ) → ((p : ℕ) → p < n → r p ≡ q p) → any_wants n r l ≡ any_wants n q l
any_same zero r q l h = refl
any_same (suc n) r q l h = ap₂ (λ s b. wants s l || b) (h n (omega arith))
    (any_same n r q l (λ p m. h p (omega (arith, m))))

-- whether a link is free for a place hangs on the lower places alone
pub free_same : (busy : ℕ → Bool) (r q : ℕ → Stand) (p : ℕ) (s : Stand) → ((k : ℕ) → k < p → r k ≡ q k)
    → is_free busy r p s ≡ is_free busy q p s
free_same busy r q p Nowhere h = refl
free_same busy r q p (Held trip n) h = refl
free_same busy r q p (Away trip a) h =
    ap (λ b. not (busy (link_of a trip.to) || b)) (any_same p r q (link_of a trip.to) h)

-- what has come ------------------------------------------------------------------------------------

orders : (a b c : Bool) → ((a || b) || c) ≡ (a || (c || b))
orders true b c = refl
orders false true true = refl
orders false true false = refl
orders false false true = refl
orders false false false = refl

-- one spot more that has its token is told first or last
pub one_more : (a b c d : Bool) → d ≡ (a || b) → (d || c) ≡ (a || (c || b))
one_more a b c d e = ap (λ z. z || c) e ∙ orders a b c

-- pairs of places are tasks
pub any_pairs : (n : ℕ) (p : ℕ → Bool) → any (2 * n) p ≡ any n (λ x. p (2 * x) || p (suc (2 * x)))
any_pairs zero p = refl
any_pairs (suc n) p =
    let e : 2 * suc n ≡ suc (suc (2 * n)) = omega arith in
    ap (λ k. any k p) e ∙ swap (p (suc (2 * n))) (p (2 * n)) (any (2 * n) p)
    ∙ ap (λ b. (p (2 * n) || p (suc (2 * n))) || b) (any_pairs n p)
  where
    swap : (a b c : Bool) → (a || (b || c)) ≡ ((b || a) || c)
    swap true true c = refl
    swap true false c = refl
    swap false true c = refl
    swap false false c = refl

-- a token that is delivered at a spot
pub spot_came : (e : Frame) (q0 : ℕ) (v : Token) (l : List Answer) → is_target q0 ≡ true → length e.spots ≡ 416
    → l ≡ set e.spots q0 (Some v) → (q : ℕ) → has_come (record e { spots = l }) q ≡ (has_come e q || q0 == q)
spot_came e q0 v l goes size is q = by (cases_eq q q0)
  where
    low : q0 < 416
    low = ltb-true q0 416 goes

    off : (b : Bool) → b ≡ (b || false)
    off true = refl
    off false = refl

    here : has_come (record e { spots = l }) q0 ≡ true
    here = cond-true (nat_lt q0 416) _ _ goes ∙ ap (λ x. is_some (at x q0)) is
        ∙ ap is_some (set_here e.spots q0 (Some v) (omega (arith, low, size)))

    by : (q ≡ q0) ⊎ (q ≡ q0 → ⊥) → has_come (record e { spots = l }) q ≡ (has_come e q || q0 == q)
    by (inl z) = subst (λ q. has_come (record e { spots = l }) q ≡ (has_come e q || q0 == q)) (sym z)
        (here ∙ sym (or_right (has_come e q0) _ (eq-eqb q0 q0 refl)))
    by (inr n) =
        ap (λ b. cond (nat_lt q 416) b
        (cond (nat_lt q 448) (is_some (at e.stores (q - 416))) (q == 448 && is_some e.exit)))
        (ap (λ x. is_some (at x q)) is ∙ ap is_some (other_at e.spots q0 q (Some v) n))
        ∙ off (has_come e q) ∙ ap (λ b. has_come e q || b) (sym (ne_eqb q0 q (λ z. n (sym z))))

-- an exit that has come
pub exit_came : (e : Frame) (x : Option Exit) → x ≢ None → (q : ℕ)
    → has_come (record e { exit = x }) q ≡ (has_come e q || 448 == q)
exit_came e x some q = by (cases_eq q 448)
  where
    off : (b : Bool) → b ≡ (b || false)
    off true = refl
    off false = refl

    some_is : (x : Option Exit) → x ≢ None → is_some x ≡ true
    some_is None n = absurd (n refl)
    some_is (Some v) n = refl

    by : (q ≡ 448) ⊎ (q ≡ 448 → ⊥) → has_come (record e { exit = x }) q ≡ (has_come e q || 448 == q)
    by (inl z) = subst (λ q. has_come (record e { exit = x }) q ≡ (has_come e q || 448 == q)) (sym z)
        (some_is x some ∙ sym (or_right (has_come e 448) true refl))
    by (inr n) =
        ap (λ b. cond (nat_lt q 416) (is_some (at e.spots q)) (cond (nat_lt q 448) (is_some (at e.stores (q - 416)))
        (b && is_some x))) (ne_eqb q 448 n)
        ∙ sym (ap (λ b. cond (nat_lt q 416) (is_some (at e.spots q))
        (cond (nat_lt q 448) (is_some (at e.stores (q - 416)))
        (b && is_some e.exit))) (ne_eqb q 448 n))
        ∙ off (has_come e q) ∙ ap (λ b. has_come e q || b) (sym (ne_eqb 448 q (λ z. n (sym z))))
