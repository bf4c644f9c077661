-- (5): the units of a frame's tiles, where no older frame comes before it.
use Rattle.std.proofs.Common.{◌≡◌, ℕ, zero, suc, ◌+◌, ◌*◌, ◌<◌, ◌≤◌, Bool, true, false, ◌==◌, ◌&&◌, not, ◌⊎◌, inl}
use Rattle.std.proofs.Common.{inr, refl, sym, ap, ◌∙◌, subst, arith}
use Rattle.std.proofs.lemmas.Bool.{and_parts, cond_both, cond-true, cond-false, eqb-true, cases_Bool, both_ways}
use Rattle.std.proofs.lemmas.Bool.{lt-ltb, le-ltb, cases_lt}
use Rattle.grid_bound.specs.inside.Course.{Kind, Reading, Plain, Serving, is_reading, Task, GoodTask}
use Rattle.grid_bound.specs.inside.Lane.{Phase, Absent, Idle, Working, Asking, Standing, Sent, is_idle, Front}
use Rattle.grid_bound.specs.inside.Lane.{all_come, unissued, ready}
use Rattle.grid_bound.specs.inside.Sending.{tile_of, parcel, sent_from, result}
use Rattle.grid_bound.specs.inside.Turning.{finished, finish_front, busy, issued, issue_front, less_one}
use Rattle.grid_bound.specs.inside.Left.{parcel_left, task_left, wait_left, on_tile, count_on, tile_left, work}
use Rattle.grid_bound.proofs.Counting.{any_true, chosen, pick_may, pick_free}
use Rattle.grid_bound.proofs.Work.{wait_le, wait_cap, on, Low, on_le, on_drop, tile_more, on_tile_at}
use Rattle.grid_bound.proofs.Work.{count_less, count_drop, ready_unissued, work_le, work_drop}
use Rattle.grid_bound.proofs.Mesh.{bounded_left}
use Rattle.grid_bound.proofs.PartsLowerWork.{GoodTasks, idle_is, here_left}

wait_drop : (c c2 : ℕ) (r r2 : Bool) (v v2 : ℕ) → c2 + 1 ≤ c → r ≡ true → r2 ≡ true → v2 ≤ v
    → wait_left c2 r2 v2 + 1 ≤ wait_left c r v
wait_drop c c2 true true v v2 l a b k = omega arith
wait_drop c c2 true false v v2 l a b k = absurd (cc)
wait_drop c c2 false r2 v v2 l a b k = absurd (cc)

wait_none : (c c2 : ℕ) (r r2 : Bool) (v v2 : ℕ) → r ≡ false → r2 ≡ false → v2 ≤ v
    → wait_left c2 r2 v2 ≤ wait_left c r v
wait_none c c2 true r2 v v2 a b k = absurd (cc)
wait_none c c2 false true v v2 a b k = absurd (cc)
wait_none c c2 false false v v2 a b k = omega arith

-- the eldest goes
wait_gone : (c c2 : ℕ) (r r2 : Bool) (v v2 : ℕ) → r ≡ true → c2 ≤ 24 → v2 + 1 ≤ v → (r2 ≡ true → 1 ≤ v2)
    → wait_left c2 r2 v2 ≤ wait_left c r v
wait_gone c c2 false r2 v v2 a l k i = absurd (cc)
wait_gone c c2 true r2 v v2 a l k i = let h : wait_left c2 r2 v2 ≤ 24 * v2 = wait_cap c2 r2 v2 l i in omega (arith, h)

result_idle : (g : ℕ) (k : Kind) (n : Task) → is_idle (result g k n) ≡ false
result_idle g Reading n = refl
result_idle g Plain n = refl
result_idle g Serving n = refl

finished_idle : (g : ℕ) (w : Phase) (c : ℕ) (n : Task) → is_idle (finished g w c n) ≡ is_idle w
finished_idle g Absent c n = refl
finished_idle g Idle c n = refl
finished_idle g Working zero n = result_idle g n.kind n
finished_idle g Working (suc c) n = refl
finished_idle g (Asking p) c n = refl
finished_idle g Standing c n = refl
finished_idle g (Sent p q) c n = refl

result_left : (g : ℕ) (k : Kind) (n : Task) (c : ℕ) → GoodTask n → task_left c (result g k n) ≤ 37
result_left g Reading n c k = let a : task_left c (sent_from g n.here n) ≤ 24 = here_left g n c k in omega (arith, a)
result_left g Plain n c k = let a : task_left c (sent_from g n.here n) ≤ 24 = here_left g n c k in omega (arith, a)
result_left g Serving n c k =
    let a : parcel_left (parcel g n.here n.served_at) ≤ 12 =
    bounded_left (parcel g n.here n.served_at) (k.here, k.served_at) in
    omega (arith, a)

-- where the unit's time is over
finished_left : (g : ℕ) (w : Phase) (n : Task) (c d : ℕ) → GoodTask n
    → task_left d (finished g w 0 n) ≤ task_left c w
finished_left g Absent n c d k = omega arith
finished_left g Idle n c d k = omega arith
finished_left g Working n c d k =
    let a : task_left d (result g n.kind n) ≤ 37 = result_left g n.kind n d k in omega (arith, a)
finished_left g (Asking p) n c d k = omega arith
finished_left g Standing n c d k = omega arith
finished_left g (Sent p q) n c d k = omega arith

-- where it is not
running_left : (w : Phase) (c d : ℕ) → d ≤ c → task_left d w ≤ task_left c w
running_left Absent c d l = omega arith
running_left Idle c d l = omega arith
running_left Working c d l = omega arith
running_left (Asking p) c d l = omega arith
running_left Standing c d l = omega arith
running_left (Sent p q) c d l = omega arith

running_same : (g : ℕ) (w : Phase) (c : ℕ) (n : Task) → 1 ≤ c → finished g w c n ≡ w
running_same g Absent c n l = refl
running_same g Idle c n l = refl
running_same g Working zero n l = absurd (omega arith)
running_same g Working (suc c) n l = refl
running_same g (Asking p) c n l = refl
running_same g Standing c n l = refl
running_same g (Sent p q) c n l = refl

module _ (u u2 : ℕ → ℕ) (fits : (t : ℕ) → u t ≤ 24) (fits2 : (t : ℕ) → u2 t ≤ 24) (f : Front) (good : GoodTasks f)
    (stays : (t : ℕ) → 1 ≤ less_one u t → u2 t ≡ less_one u t) where
  abbrev u1 : ℕ → ℕ
  u1 = less_one u

  abbrev f1 : Front
  f1 = finish_front (less_one u) f

  abbrev f2 : Front
  f2 = issue_front (less_one u) (finish_front (less_one u) f)

  idle_same : (x : ℕ) → is_idle (f1.at x) ≡ is_idle (f.at x)
  idle_same x = finished_idle f.generation (f.at x) (u1 (tile_of f x)) (f.course.task x)

  unissued_same : (x : ℕ) → unissued f1 x ≡ unissued f x
  unissued_same x = ap (λ b. b && not (is_reading (f.course.task x).kind)) (idle_same x)

  ready_same : (x : ℕ) → ready f1 x ≡ ready f x
  ready_same x = ap (λ b. b && ((f.course.task x).met && all_come f.come (f.course.task x).needs)) (unissued_same x)

  keeps : (x : ℕ) → unissued f2 x ≡ true → unissued f x ≡ true
  keeps x = cond_both (issued u1 f1 x) Working (f1.at x)
      (λ w. (is_idle w && not (is_reading (f.course.task x).kind)) ≡ true → unissued f x ≡ true)
      (λ e h. absurd (cc)) (λ e h. sym (unissued_same x) ∙ h)

  ready_before : (x : ℕ) → ready f2 x ≡ true → ready f x ≡ true
  ready_before x = cond_both (issued u1 f1 x) Working (f1.at x)
      (λ w. ((is_idle w && not (is_reading (f.course.task x).kind))
      && ((f.course.task x).met && all_come f.come (f.course.task x).needs)) ≡ true → ready f x ≡ true)
      (λ e h. absurd (cc)) (λ e h. sym (ready_same x) ∙ h)

  unissued_tile : (t : ℕ) → count_on f2 (unissued f2) t ≤ count_on f (unissued f) t
  unissued_tile t = count_less f f2 (unissued f) (unissued f2) t refl (λ x l h. keeps x h)

  ready_tile : (t : ℕ) → on_tile f2 (ready f2) t ≡ true → on_tile f (ready f) t ≡ true
  ready_tile t = tile_more f2 f (ready f2) (ready f) t refl (λ x l e h. ready_before x h)

  -- a node that has something to do with its unit
  abbrev Turns : ℕ → Type 0
  Turns x = (ready f x ≡ true) ⊎ ((f.at x ≡ Working) × (1 ≤ u (tile_of f x)))

  abbrev Outcome : ℕ → Type 0
  Outcome t = (tile_left u2 f2 t ≤ tile_left u f t)
      × ((x : ℕ) → x < f.course.room → tile_of f x ≡ t → Turns x → tile_left u2 f2 t + 1 ≤ tile_left u f t)

  -- the unit stays busy
  module _ (t : ℕ) (l : 1 ≤ less_one u t) where
    not_issued : (x : ℕ) → tile_of f x ≡ t → issued u1 f1 x ≡ false
    not_issued x e = at (cases_Bool (issued u1 f1 x))
      where
        at : (issued u1 f1 x ≡ true) ⊎ (issued u1 f1 x ≡ false) → issued u1 f1 x ≡ false
        at (inl i) =
            let free : busy u1 (tile_of f x) ≡ false = pick_free (ready f1) (tile_of f1) (busy u1) x i in
            let held : busy u1 (tile_of f x) ≡ true = lt-ltb 0 (u1 (tile_of f x)) (subst (λ z. 1 ≤ u1 z) (sym e) l) in
            absurd (both_ways (busy u1 (tile_of f x)) free held)
        at (inr n) = n

    still : (x : ℕ) → tile_of f x ≡ t → f2.at x ≡ f.at x
    still x e = cond-false (issued u1 f1 x) Working (f1.at x) (not_issued x e)
        ∙ running_same f.generation (f.at x) (u1 (tile_of f x)) (f.course.task x) (subst (λ z. 1 ≤ u1 z) (sym e) l)

    busy_low : Low f.course u u2 f.at f2.at t
    busy_low x k e = subst (λ w. task_left (u2 t) w ≤ task_left (u t) (f.at x)) (sym (still x e))
        (running_left (f.at x) (u t) (u2 t) (let s : u2 t ≡ u1 t = stays t l in omega (arith, s)))

    ready_after : on_tile f (ready f) t ≡ true → on_tile f2 (ready f2) t ≡ true
    ready_after = tile_more f f2 (ready f) (ready f2) t refl (λ x k e h.
        subst (λ w. ((is_idle w && not (is_reading (f.course.task x).kind))
        && ((f.course.task x).met && all_come f.come (f.course.task x).needs)) ≡ true) (sym (still x e)) h)

    busy_wait : wait_left (u2 t) (on_tile f2 (ready f2) t) (count_on f2 (unissued f2) t)
        ≤ wait_left (u t) (on_tile f (ready f) t) (count_on f (unissued f) t)
    busy_wait = wait_le (u t) (u2 t) (on_tile f (ready f) t) (on_tile f2 (ready f2) t) (count_on f (unissued f) t)
        (count_on f2 (unissued f2) t)
        (let s : u2 t ≡ u1 t = stays t l in omega (arith, s)) (fits2 t) ready_after (unissued_tile t)
        (ready_unissued f2 t)

    busy_outcome : Outcome t
    busy_outcome = (
      let a = busy_wait in
          let b : on f.course u2 f2.at t ≤ on f.course u f.at t = on_le f.course u u2 f.at f2.at t busy_low in
          omega (arith, a, b),
      strict,
    )
      where
        strict : (x : ℕ) → x < f.course.room → tile_of f x ≡ t → Turns x → tile_left u2 f2 t + 1 ≤ tile_left u f t
        strict x k e (inl r) =
            let s : u2 t ≡ u1 t = stays t l in
            let here : on_tile f (ready f) t ≡ true = on_tile_at f (ready f) x t k e r in
            let a : wait_left (u2 t) (on_tile f2 (ready f2) t) (count_on f2 (unissued f2) t) + 1
            ≤ wait_left (u t) (on_tile f (ready f) t) (count_on f (unissued f) t) =
            wait_drop (u t) (u2 t) (on_tile f (ready f) t) (on_tile f2 (ready f2) t) (count_on f (unissued f) t)
            (count_on f2 (unissued f2) t) (omega (arith, s)) here (ready_after here) (unissued_tile t) in
            let b : on f.course u2 f2.at t ≤ on f.course u f.at t = on_le f.course u u2 f.at f2.at t busy_low in
            omega (arith, a, b)
        strict x k e (inr w) =
            let s : u2 t ≡ u1 t = stays t l in
            let a = busy_wait in
            let b : on f.course u2 f2.at t + 1 ≤ on f.course u f.at t =
            on_drop f.course u u2 f.at f2.at t 1 x busy_low k e
            (subst (λ z. task_left (u2 t) z + 1 ≤ task_left (u t) (f.at x)) (sym (still x e))
            (subst (λ z. task_left (u2 t) z + 1 ≤ task_left (u t) z) (sym w.0) (omega (arith, s)))) in
            omega (arith, a, b)

  -- the unit is free
  module _ (t : ℕ) (l : less_one u t ≡ 0) where
    ended : (x : ℕ) → tile_of f x ≡ t → f1.at x ≡ finished f.generation (f.at x) 0 (f.course.task x)
    ended x e = ap (λ z. finished f.generation (f.at x) z (f.course.task x)) (ap u1 e ∙ l)

    issued_falls : (x : ℕ) → x < f.course.room → tile_of f x ≡ t → issued u1 f1 x ≡ true
        → task_left (u2 t) (f2.at x) + 1 ≤ task_left (u t) (f.at x)
    issued_falls x k e i =
        let r : ready f x ≡ true = sym (ready_same x) ∙ pick_may (ready f1) (tile_of f1) (busy u1) x i in
        let w : f.at x ≡ Idle = idle_is _ (and_parts (is_idle (f.at x)) _ (and_parts (unissued f x) _ r).0).0 in
        let c : u2 t ≤ 24 = fits2 t in
        subst (λ z. task_left (u2 t) z + 1 ≤ task_left (u t) (f.at x))
        (sym (cond-true (issued u1 f1 x) Working (f1.at x) i))
        (subst (λ z. u2 t + 38 + 1 ≤ task_left (u t) z) (sym w) (omega (arith, c)))

    free_low : Low f.course u u2 f.at f2.at t
    free_low x k e = at (cases_Bool (issued u1 f1 x))
      where
        at : (issued u1 f1 x ≡ true) ⊎ (issued u1 f1 x ≡ false)
            → task_left (u2 t) (f2.at x) ≤ task_left (u t) (f.at x)
        at (inl i) = let a : task_left (u2 t) (f2.at x) + 1 ≤ task_left (u t) (f.at x) = issued_falls x k e i in
            omega (arith, a)
        at (inr n) = subst (λ w. task_left (u2 t) w ≤ task_left (u t) (f.at x))
            (sym (cond-false (issued u1 f1 x) Working (f1.at x) n ∙ ended x e))
            (finished_left f.generation (f.at x) (f.course.task x) (u t) (u2 t) (good x))

    some_issued : on_tile f (ready f) t ≡ true → tile_left u2 f2 t + 1 ≤ tile_left u f t
    some_issued h =
        let r : (x : ℕ) × (x < f.course.room) × ((ready f x && tile_of f x == t) ≡ true) =
        any_true f.course.room _ h in
        let b : (ready f r.0 ≡ true) × ((tile_of f r.0 == t) ≡ true) = and_parts (ready f r.0) _ r.2 in
        let e : tile_of f r.0 ≡ t = eqb-true _ _ b.1 in
        let free : busy u1 (tile_of f r.0) ≡ false =
        le-ltb 0 (u1 (tile_of f r.0)) (let z : u1 (tile_of f r.0) ≡ 0 = ap u1 e ∙ l in omega (arith, z)) in
        let y : (y : ℕ) × (y < f.course.room) × (tile_of f y ≡ tile_of f r.0) × (issued u1 f1 y ≡ true) =
        chosen f.course.room (ready f1) (tile_of f1) (busy u1) r.0 r.1 (ready_same r.0 ∙ b.0) free in
        let d : on f.course u2 f2.at t + 1 ≤ on f.course u f.at t =
        on_drop f.course u u2 f.at f2.at t 1 y.0 free_low y.1 (y.2 ∙ e) (issued_falls y.0 y.1 (y.2 ∙ e) y.3) in
        let was : unissued f y.0 ≡ true =
        (and_parts (unissued f y.0) _
        (sym (ready_same y.0) ∙ pick_may (ready f1) (tile_of f1) (busy u1) y.0 y.3)).0 in
        let now : unissued f2 y.0 ≡ false = simp (cond-true (issued u1 f1 y.0) Working (f1.at y.0) y.3) in
        let fewer : count_on f2 (unissued f2) t + 1 ≤ count_on f (unissued f) t =
        count_drop f f2 (unissued f) (unissued f2) t y.0 refl (λ x l h. keeps x h) y.1 (y.2 ∙ e) was now in
        let c : wait_left (u2 t) (on_tile f2 (ready f2) t) (count_on f2 (unissued f2) t)
        ≤ wait_left (u t) (on_tile f (ready f) t) (count_on f (unissued f) t) =
        wait_gone (u t) (u2 t) (on_tile f (ready f) t) (on_tile f2 (ready f2) t) (count_on f (unissued f) t)
        (count_on f2 (unissued f2) t) h (fits2 t) fewer (ready_unissued f2 t) in
        omega (arith, d, c)

    free_outcome : Outcome t
    free_outcome = at (cases_Bool (on_tile f (ready f) t))
      where
        none_after : on_tile f (ready f) t ≡ false → on_tile f2 (ready f2) t ≡ false
        none_after n = two (cases_Bool (on_tile f2 (ready f2) t))
          where
            two : (on_tile f2 (ready f2) t ≡ true) ⊎ (on_tile f2 (ready f2) t ≡ false)
                → on_tile f2 (ready f2) t ≡ false
            two (inl h) = absurd (both_ways _ n (ready_tile t h))
            two (inr h) = h

        strict : on_tile f (ready f) t ≡ false → (x : ℕ) → x < f.course.room → tile_of f x ≡ t → Turns x
            → tile_left u2 f2 t + 1 ≤ tile_left u f t
        strict n x k e (inl r) = absurd (both_ways _ n (on_tile_at f (ready f) x t k e r))
        strict n x k e (inr w) =
            let a : wait_left (u2 t) (on_tile f2 (ready f2) t) (count_on f2 (unissued f2) t)
            ≤ wait_left (u t) (on_tile f (ready f) t) (count_on f (unissued f) t) =
            wait_none (u t) (u2 t) (on_tile f (ready f) t) (on_tile f2 (ready f2) t) (count_on f (unissued f) t)
            (count_on f2 (unissued f2) t) n (none_after n) (unissued_tile t) in
            let no : issued u1 f1 x ≡ false = idle_only (cases_Bool (issued u1 f1 x)) in
            let c : task_left (u2 t) (result f.generation (f.course.task x).kind (f.course.task x)) ≤ 37 =
            result_left f.generation (f.course.task x).kind (f.course.task x) (u2 t) (good x) in
            let now : f2.at x ≡ finished f.generation Working 0 (f.course.task x) =
            cond-false (issued u1 f1 x) Working (f1.at x) no ∙ ended x e
            ∙ ap (λ z. finished f.generation z 0 (f.course.task x)) w.0 in
            let b : on f.course u2 f2.at t + 1 ≤ on f.course u f.at t =
            on_drop f.course u u2 f.at f2.at t 1 x free_low k e
            (subst (λ z. task_left (u2 t) z + 1 ≤ task_left (u t) (f.at x)) (sym now)
            (subst (λ z. task_left (u2 t) (result f.generation (f.course.task x).kind (f.course.task x)) + 1
            ≤ task_left (u t) z) (sym w.0) (omega (arith, c)))) in
            omega (arith, a, b)
          where
            idle_only : (issued u1 f1 x ≡ true) ⊎ (issued u1 f1 x ≡ false) → issued u1 f1 x ≡ false
            idle_only (inr h) = h
            idle_only (inl h) =
                let r : ready f x ≡ true = sym (ready_same x) ∙ pick_may (ready f1) (tile_of f1) (busy u1) x h in
                let i : f.at x ≡ Idle =
                idle_is _ (and_parts (is_idle (f.at x)) _ (and_parts (unissued f x) _ r).0).0 in
                absurd (let k : Idle ≡ Working = sym i ∙ w.0 in cc)

        at : (on_tile f (ready f) t ≡ true) ⊎ (on_tile f (ready f) t ≡ false) → Outcome t
        at (inl h) = (let a = some_issued h in omega (arith, a), λ x k e w. some_issued h)
        at (inr n) = (
          let a : wait_left (u2 t) (on_tile f2 (ready f2) t) (count_on f2 (unissued f2) t)
              ≤ wait_left (u t) (on_tile f (ready f) t) (count_on f (unissued f) t) =
              wait_none (u t) (u2 t) (on_tile f (ready f) t) (on_tile f2 (ready f2) t) (count_on f (unissued f) t)
              (count_on f2 (unissued f2) t) n (none_after n) (unissued_tile t) in
              let b : on f.course u2 f2.at t ≤ on f.course u f.at t = on_le f.course u u2 f.at f2.at t free_low in
              omega (arith, a, b),
          strict n,
        )

  outcome : (t : ℕ) → Outcome t
  outcome t = at (cases_lt 0 (less_one u t))
    where
      at : (0 < less_one u t) ⊎ (less_one u t ≤ 0) → Outcome t
      at (inl l) = busy_outcome t (omega arith)
      at (inr l) = free_outcome t (omega arith)

  -- the turn of the units raises no work
  pub turn_le : work u2 f2 ≤ work u f
  turn_le = work_le u u2 f f2 (λ t l. (outcome t).0)

  -- the turn of the units lowers the work where a task has its turn
  pub turn_drop : (x : ℕ) → x < f.course.room → Turns x → work u2 f2 + 1 ≤ work u f
  turn_drop x l w = work_drop u u2 f f2 (tile_of f x) (λ t k. (outcome t).0) (good x).tile
      ((outcome (tile_of f x)).1 x l refl w)
