-- What each part of a cycle does to one frame's work, where no older frame comes before it.
use Rattle.std.proofs.Common.{◌≡◌, ℕ, zero, suc, ◌+◌, ◌*◌, ◌/◌, ◌%◌, ◌<◌, ◌≤◌, Bool, true, false, cond, ◌==◌, ◌&&◌}
use Rattle.std.proofs.Common.{◌||◌, not, ◌⊎◌, inl, inr, List, [], ◌∷◌, refl, sym, ap, ◌∙◌, subst, arith}
use Rattle.std.proofs.lemmas.Bool.{and_parts, and_from, or_cases, or_left, cond_both, cond-true, eq-eqb, cases_Bool}
use Rattle.std.proofs.lemmas.Bool.{both_ways}
use Rattle.operand_net.specs.Tick.{link_of, wants, any_wants, is_free}
use Rattle.operand_net.specs.declared.parcel.Stand.{Stand}
use Rattle.operand_net.specs.declared.parcel.Stand.TheVariants.{Nowhere, Away, Held}
use Rattle.grid_bound.specs.inside.Course.{is_reading, Task, GoodTask}
use Rattle.grid_bound.specs.inside.Lane.{any, Phase, Absent, Idle, Working, Asking, Standing, Sent, is_idle}
use Rattle.grid_bound.specs.inside.Lane.{is_standing, first_parcel, second_parcel, Front, all_come, unread, unissued}
use Rattle.grid_bound.specs.inside.Lane.{ready}
use Rattle.grid_bound.specs.inside.Sending.{pick, none_busy, station_of, launch, sent_from, reads_front}
use Rattle.grid_bound.specs.inside.Moving.{goes, row, free_at, asked, moved, is_nowhere, delivers, move_at}
use Rattle.grid_bound.specs.inside.Moving.{move_front}
use Rattle.grid_bound.specs.inside.Left.{parcel_left, task_left, work}
use Rattle.grid_bound.specs.inside.Laws.{FineAt, Fine}
use Rattle.grid_bound.proofs.Counting.{chosen, pick_may}
use Rattle.grid_bound.proofs.Work.{calm, calm_drop}
use Rattle.grid_bound.proofs.Mesh.{Both, launch_left, moved_left, moved_drop_first, moved_drop_second, Leaves}
use Rattle.grid_bound.proofs.Mesh.{landed_bounded, way_bounded}

-- each task of the frame's block is good
abbrev pub GoodTasks : Front → Type 0
GoodTasks f = (x : ℕ) → GoodTask (f.course.task x)

-- states ----------------------------------------------------------------------------------------

-- a phase that passes the test for idle is idle
pub idle_is : (w : Phase) → is_idle w ≡ true → w ≡ Idle
idle_is Absent e = absurd (cc)
idle_is Idle e = refl
idle_is Working e = absurd (cc)
idle_is (Asking p) e = absurd (cc)
idle_is Standing e = absurd (cc)
idle_is (Sent p q) e = absurd (cc)

-- what tests as standing at a data tile stands there
pub standing_is : (w : Phase) → is_standing w ≡ true → w ≡ Standing
standing_is Absent e = absurd (cc)
standing_is Idle e = absurd (cc)
standing_is Working e = absurd (cc)
standing_is (Asking p) e = absurd (cc)
standing_is Standing e = refl
standing_is (Sent p q) e = absurd (cc)

-- nodes that change from one state to another, where no unit turns --------------------------------

module _ (u : ℕ → ℕ) (fits : (t : ℕ) → u t ≤ 24) (f : Front) (picked : ℕ → Bool) (new : ℕ → Phase)
    (gone : (x : ℕ) → picked x ≡ true → unissued f x ≡ false)
    (taken : (x : ℕ) → picked x ≡ true → is_idle (new x) ≡ false)
    (falls : (x c : ℕ) → x < f.course.room → picked x ≡ true → task_left c (new x) + 1 ≤ task_left c (f.at x)) where
  abbrev at2 : ℕ → Phase
  at2 x = cond (picked x) (new x) (f.at x)

  keeps : (x : ℕ) → x < f.course.room → unissued (record f { at = at2; come = f.come }) x ≡ true → unissued f x ≡ true
  keeps x l = cond_both (picked x) (new x) (f.at x)
      (λ w. (is_idle w && not (is_reading (f.course.task x).kind)) ≡ true → unissued f x ≡ true)
      (λ e h. absurd (both_ways (is_idle (new x)) (taken x e) (and_parts (is_idle (new x)) _ h).0)) (λ e h. h)

  more : (x : ℕ) → x < f.course.room → ready f x ≡ true → ready (record f { at = at2; come = f.come }) x ≡ true
  more x l h = cond_both (picked x) (new x) (f.at x)
      (λ w. ((is_idle w && not (is_reading (f.course.task x).kind))
      && ((f.course.task x).met && all_come f.come (f.course.task x).needs)) ≡ true)
      (λ e. absurd (both_ways (unissued f x) (gone x e) (and_parts (unissued f x) _ h).0)) (λ e. h)

  low : (x c : ℕ) → x < f.course.room → task_left c (at2 x) ≤ task_left c (f.at x)
  low x c l = cond_both (picked x) (new x) (f.at x) (λ w. task_left c w ≤ task_left c (f.at x))
      (λ e. let a : task_left c (new x) + 1 ≤ task_left c (f.at x) = falls x c l e in omega (arith, a))
      (λ e. omega arith)

  pub picked_le : work u (record f { at = at2 }) ≤ work u f
  picked_le = calm u fits f at2 f.come keeps more low

  pub picked_drop : (x : ℕ) → x < f.course.room → (f.course.task x).tile < 16 → picked x ≡ true
      → work u (record f { at = at2 }) + 1 ≤ work u f
  picked_drop x l k e = calm_drop u fits f at2 f.come keeps more low x l k
      (λ c. subst (λ w. task_left c w + 1 ≤ task_left c (f.at x)) (sym (cond-true (picked x) (new x) (f.at x) e))
      (falls x c l e))

pub sent_left : (g p : ℕ) (n : Task) (c : ℕ) → p < 25 → GoodTask n → task_left c (sent_from g p n) ≤ 24
sent_left g p n c l k =
    let a : parcel_left (launch g p n.first) ≤ 12 = launch_left g p n.first l k.first in
    let b : parcel_left (launch g p n.second) ≤ 12 = launch_left g p n.second l k.second in
    omega (arith, a, b)

-- a good task whose tokens enter at its own node has at most 24 cycles left
pub here_left : (g : ℕ) (n : Task) (c : ℕ) → GoodTask n → task_left c (sent_from g n.here n) ≤ 24
here_left g n c k = sent_left g n.here n c k.here k

-- a good task whose tokens enter at its data tile has at most 24 cycles left
pub there_left : (g : ℕ) (n : Task) (c : ℕ) → GoodTask n → task_left c (sent_from g n.served_at n) ≤ 24
there_left g n c k = sent_left g n.served_at n c k.served_at k

-- (3) -------------------------------------------------------------------------------------------

module _ (u : ℕ → ℕ) (fits : (t : ℕ) → u t ≤ 24) (f : Front) (good : GoodTasks f) where
  reads : ℕ → Bool
  reads x = pick (unread f) (station_of f) none_busy x

  read_gone : (x : ℕ) → pick (unread f) (station_of f) none_busy x ≡ true → unissued f x ≡ false
  read_gone x e = let b : (is_idle (f.at x) ≡ true) × (is_reading (f.course.task x).kind ≡ true) =
      and_parts (is_idle (f.at x)) _ (pick_may (unread f) (station_of f) none_busy x e) in simp (b.0, b.1)

  read_falls : (x c : ℕ) → x < f.course.room → pick (unread f) (station_of f) none_busy x ≡ true
      → task_left c (sent_from f.generation (f.course.task x).here (f.course.task x)) + 1 ≤ task_left c (f.at x)
  read_falls x c l e =
      let i : f.at x ≡ Idle =
      idle_is _ (and_parts (is_idle (f.at x)) _ (pick_may (unread f) (station_of f) none_busy x e)).0 in
      let a : task_left c (sent_from f.generation (f.course.task x).here (f.course.task x)) ≤ 24 =
      here_left f.generation (f.course.task x) c (good x) in
      subst (λ w. task_left c (sent_from f.generation (f.course.task x).here (f.course.task x)) + 1 ≤ task_left c w)
      (sym i) (omega (arith, a))

  -- the banks raise no work
  pub read_le : work u (reads_front f) ≤ work u f
  read_le = picked_le u fits f (λ x. pick (unread f) (station_of f) none_busy x)
      (λ x. sent_from f.generation (f.course.task x).here (f.course.task x)) read_gone (λ x e. refl) read_falls

  -- the banks lower the work where a read is not answered yet
  pub read_drop : (x : ℕ) → x < f.course.room → unread f x ≡ true → work u (reads_front f) + 1 ≤ work u f
  read_drop x l e = let y : (y : ℕ) × (y < f.course.room) × (station_of f y ≡ station_of f x)
      × (pick (unread f) (station_of f) none_busy y ≡ true) =
      chosen f.course.room (unread f) (station_of f) none_busy x l e refl in
      picked_drop u fits f (λ x. pick (unread f) (station_of f) none_busy x)
      (λ x. sent_from f.generation (f.course.task x).here (f.course.task x)) read_gone
      (λ x e. refl) read_falls y.0 y.1 (good y.0).tile y.3

-- (6) -------------------------------------------------------------------------------------------

asked_idle : (p : Stand) → is_idle (asked p) ≡ false
asked_idle Nowhere = refl
asked_idle (Away trip a) = refl
asked_idle (Held trip k) = refl

pub moved_idle : (m k : Bool) (h j : ℕ) (w : Phase) → is_idle (moved m k h j w) ≡ is_idle w
moved_idle m k h j Absent = refl
moved_idle m k h j Idle = refl
moved_idle m k h j Working = refl
moved_idle m k h j (Asking p) = asked_idle (goes m h p)
moved_idle m k h j Standing = refl
moved_idle m k h j (Sent p q) = refl

-- where more spots have their token, those that all had theirs still have
pub all_come_more : (come come2 : ℕ → Bool) (qs : List ℕ) → ((s : ℕ) → come s ≡ true → come2 s ≡ true)
    → all_come come qs ≡ true → all_come come2 qs ≡ true
all_come_more come come2 [] more e = refl
all_come_more come come2 (q ∷ qs) more e = let b : (come q ≡ true) × (all_come come qs ≡ true) =
    and_parts (come q) _ e in and_from (come2 q) _ (more q b.0) (all_come_more come come2 qs more b.1)

first_shape : (w : Phase) → is_nowhere (first_parcel w) ≡ false
    → (w ≡ Asking (first_parcel w)) ⊎ ((q : Stand) × (w ≡ Sent (first_parcel w) q))
first_shape Absent e = absurd (cc)
first_shape Idle e = absurd (cc)
first_shape Working e = absurd (cc)
first_shape (Asking p) e = inl refl
first_shape Standing e = absurd (cc)
first_shape (Sent p q) e = inr (q, refl)

second_shape : (w : Phase) → is_nowhere (second_parcel w) ≡ false → (p : Stand) × (w ≡ Sent p (second_parcel w))
second_shape Absent e = absurd (cc)
second_shape Idle e = absurd (cc)
second_shape Working e = absurd (cc)
second_shape (Asking p) e = absurd (cc)
second_shape Standing e = absurd (cc)
second_shape (Sent p q) e = (p, refl)

-- the bounds of a task's parcels
pub fine_both : (u : ℕ → ℕ) (come : ℕ → Bool) (n : Task) (w : Phase) → FineAt u come n w → Both w
fine_both u come n Absent h = tt
fine_both u come n Idle h = tt
fine_both u come n Working h = tt
fine_both u come n (Asking p) h = way_bounded p h
fine_both u come n Standing h = tt
fine_both u come n (Sent p q) h = (landed_bounded come p n.first h.0, landed_bounded come q n.second h.1)

-- a parcel goes, or one of a lower place wants its link
goes_or : (r : ℕ → Stand) (k : ℕ) (p : Stand) → is_nowhere p ≡ false
    → Leaves (is_free none_busy r k p) p ⊎ ((l : ℕ) × (any_wants k r l ≡ true))
goes_or r k Nowhere e = absurd (cc)
goes_or r k (Held trip h) e = inl tt
goes_or r k (Away trip a) e = at (cases_Bool (any_wants k r (link_of a trip.to)))
  where
    at : (any_wants k r (link_of a trip.to) ≡ true) ⊎ (any_wants k r (link_of a trip.to) ≡ false)
        → Leaves (is_free none_busy r k (Away trip a)) (Away trip a) ⊎ ((l : ℕ) × (any_wants k r l ≡ true))
    at (inl t) = inr (link_of a trip.to, t)
    at (inr n) = inl (λ e. ap (λ b. not b) n)

wants_present : (p : Stand) (l : ℕ) → wants p l ≡ true → is_nowhere p ≡ false
wants_present Nowhere l e = absurd (cc)
wants_present (Away trip a) l e = refl
wants_present (Held trip k) l e = refl

-- one that wants a link stands below
who_wants : (k : ℕ) (r : ℕ → Stand) (l : ℕ) → any_wants k r l ≡ true → (q : ℕ) × (q < k) × (is_nowhere (r q) ≡ false)
who_wants zero r l e = absurd (cc)
who_wants (suc k) r l e = go (who_wants k r l) (or_cases (wants (r k) l) (any_wants k r l) e)
  where
    go : (any_wants k r l ≡ true → (q : ℕ) × (q < k) × (is_nowhere (r q) ≡ false))
        → (wants (r k) l ≡ true) ⊎ (any_wants k r l ≡ true) → (q : ℕ) × (q < suc k) × (is_nowhere (r q) ≡ false)
    go ih (inl h) = (k, omega arith, wants_present (r k) l h)
    go ih (inr h) = let d : (q : ℕ) × (q < k) × (is_nowhere (r q) ≡ false) = ih h in
        let i : d.0 < k = d.1 in (d.0, omega (arith, i), d.2)

module _ (u : ℕ → ℕ) (fits : (t : ℕ) → u t ≤ 24) (f : Front) (good : GoodTasks f) (fine : Fine u f) (hold : ℕ → ℕ)
    (holds : (p : ℕ) → hold p ≤ 3) where
  abbrev come2 : ℕ → Bool
  come2 s = f.come s || any f.course.room (λ x. delivers (f.at x) (move_at hold f x) (f.course.task x) s)

  -- which places' links are free
  abbrev one : ℕ → Bool
  one x = free_at f (2 * x) (first_parcel (f.at x))

  abbrev two : ℕ → Bool
  two x = free_at f (suc (2 * x)) (second_parcel (f.at x))

  both : (x : ℕ) → x < f.course.room → Both (f.at x)
  both x l = fine_both u f.come (f.course.task x) (f.at x) (fine x l)

  come_more : (s : ℕ) → f.come s ≡ true → come2 s ≡ true
  come_more s e = or_left (f.come s) _ e

  idle_same : (x : ℕ) → is_idle (move_at hold f x) ≡ is_idle (f.at x)
  idle_same x = moved_idle (one x) (two x) (hold (2 * x)) (hold (suc (2 * x))) (f.at x)

  move_keeps : (x : ℕ) → x < f.course.room → unissued (move_front hold f) x ≡ true → unissued f x ≡ true
  move_keeps x l e = subst (λ b. (b && not (is_reading (f.course.task x).kind)) ≡ true) (idle_same x) e

  move_more : (x : ℕ) → x < f.course.room → ready f x ≡ true → ready (move_front hold f) x ≡ true
  move_more x l e =
      let a : (unissued f x ≡ true) × (((f.course.task x).met && all_come f.come (f.course.task x).needs) ≡ true) =
      and_parts (unissued f x) _ e in
      let b : ((f.course.task x).met ≡ true) × (all_come f.come (f.course.task x).needs ≡ true) =
      and_parts (f.course.task x).met _ a.1 in
      and_from (unissued (move_front hold f) x) _
      (subst (λ b. (b && not (is_reading (f.course.task x).kind)) ≡ true) (sym (idle_same x)) a.0)
      (and_from (f.course.task x).met _ b.0
      (all_come_more f.come come2 (f.course.task x).needs come_more b.1))

  move_low : (x c : ℕ) → x < f.course.room → task_left c (move_at hold f x) ≤ task_left c (f.at x)
  move_low x c l = moved_left (one x) (two x) (hold (2 * x)) (hold (suc (2 * x))) c (f.at x) (holds (2 * x))
      (holds (suc (2 * x))) (both x l)

  -- the mesh raises no work
  pub move_le : work u (move_front hold f) ≤ work u f
  move_le = calm u fits f (move_at hold f) come2 move_keeps move_more move_low

  abbrev Travels : ℕ → Type 0
  Travels x = (is_nowhere (first_parcel (f.at x)) ≡ false) ⊎ (is_nowhere (second_parcel (f.at x)) ≡ false)

  abbrev SomeFalls : Type 0
  SomeFalls = (y : ℕ) × (y < f.course.room)
      × ((c : ℕ) → task_left c (move_at hold f y) + 1 ≤ task_left c (f.at y))

  abbrev Before : ℕ → Type 0
  Before x = (y : ℕ) → y < x → y < f.course.room → Travels y → SomeFalls

  -- the task of a place at which a parcel stands
  place_travels : (q : ℕ) → is_nowhere (row f q) ≡ false → Travels (q / 2)
  place_travels q = cond_both (q % 2 == 0) (first_parcel (f.at (q / 2))) (second_parcel (f.at (q / 2)))
      (λ s. is_nowhere s ≡ false → Travels (q / 2)) (λ k e. inl e) (λ k e. inr e)

  from_wanted : (x l : ℕ) → x < f.course.room → Before x → any_wants (2 * x) (row f) l ≡ true → SomeFalls
  from_wanted x l k ih e =
      let y : (q : ℕ) × (q < 2 * x) × (is_nowhere (row f q) ≡ false) = who_wants (2 * x) (row f) l e in
      let i : y.0 < 2 * x = y.1 in
      ih (y.0 / 2) (omega (arith, i)) (omega (arith, i, k)) (place_travels y.0 y.2)

  first_falls : (x : ℕ) → x < f.course.room → Before x → is_nowhere (first_parcel (f.at x)) ≡ false → SomeFalls
  first_falls x l ih e = at (goes_or (row f) (2 * x) (first_parcel (f.at x)) e)
    where
      at : Leaves (one x) (first_parcel (f.at x)) ⊎ ((k : ℕ) × (any_wants (2 * x) (row f) k ≡ true)) → SomeFalls
      at (inl g) = (
        x,
        l,
        λ c. moved_drop_first (one x) (two x) (hold (2 * x)) (hold (suc (2 * x))) c (f.at x)
            (first_parcel (f.at x)) (holds (2 * x)) (holds (suc (2 * x))) (both x l) (first_shape (f.at x) e) g,
      )
      at (inr k) = from_wanted x k.0 l ih k.1

  first_place : (x : ℕ) → row f (2 * x) ≡ first_parcel (f.at x)
  first_place x =
      let even : (2 * x) % 2 ≡ 0 = omega arith in
      let half : (2 * x) / 2 ≡ x = omega arith in
      cond-true _ _ _ (eq-eqb _ _ even) ∙ ap (λ y. first_parcel (f.at y)) half

  second_falls : (x : ℕ) → x < f.course.room → Before x → is_nowhere (second_parcel (f.at x)) ≡ false → SomeFalls
  second_falls x l ih e = at (goes_or (row f) (suc (2 * x)) (second_parcel (f.at x)) e)
    where
      either : (k : ℕ) → (wants (row f (2 * x)) k ≡ true) ⊎ (any_wants (2 * x) (row f) k ≡ true) → SomeFalls
      either k (inl a) = first_falls x l ih (wants_present (first_parcel (f.at x)) k
          (subst (λ p. wants p k ≡ true) (first_place x) a))
      either k (inr a) = from_wanted x k l ih a

      at : Leaves (two x) (second_parcel (f.at x)) ⊎ ((k : ℕ) × (any_wants (suc (2 * x)) (row f) k ≡ true))
          → SomeFalls
      at (inl g) = (
        x,
        l,
        λ c.
            let s : (p : Stand) × (f.at x ≡ Sent p (second_parcel (f.at x))) = second_shape (f.at x) e in
            subst (λ w. task_left c (moved (one x) (two x) (hold (2 * x)) (hold (suc (2 * x))) w) + 1 ≤ task_left c w)
            (sym s.1) (moved_drop_second (one x) (two x) (hold (2 * x)) (hold (suc (2 * x))) c s.0
            (second_parcel (f.at x)) (holds (2 * x)) (holds (suc (2 * x))) (subst Both s.1 (both x l)) g),
      )
      at (inr k) = either k.0 (or_cases (wants (row f (2 * x)) k.0) _ k.1)

  one_falls : (x : ℕ) → x < f.course.room → Before x → Travels x → SomeFalls
  one_falls x l ih (inl e) = first_falls x l ih e
  one_falls x l ih (inr e) = second_falls x l ih e

  below_falls : (k x : ℕ) → x < k → x < f.course.room → Travels x → SomeFalls
  below_falls zero x b l t = absurd (omega arith)
  below_falls (suc k) x b l t = one_falls x l (λ y i j. below_falls k y (omega (arith, i, b)) j) t

  -- the mesh lowers the work where something travels
  pub move_drop : (x : ℕ) → x < f.course.room → Travels x → work u (move_front hold f) + 1 ≤ work u f
  move_drop x l t = let s : SomeFalls = below_falls (suc x) x (omega arith) l t in
      calm_drop u fits f (move_at hold f) come2 move_keeps move_more move_low s.0 s.1 (good s.0).tile s.2
