-- Which tasks still act or travel behind a part of a cycle.
use Rattle.std.proofs.Common.{◌≡◌, ℕ, ◌<◌, Bool, true, false, ◌&&◌, not, ◌⊎◌, inl, inr}
use Rattle.std.proofs.Common.{refl, sym, ◌∙◌, subst}
use Rattle.std.proofs.lemmas.Bool.{and_parts, cond-false, cases_Bool, both_ways, not-true}
use Rattle.grid_bound.specs.inside.Course.{is_reading, Task}
use Rattle.grid_bound.specs.inside.Lane.{Phase, Absent, Idle, Working, Asking, Standing, Sent, is_idle, is_standing}
use Rattle.grid_bound.specs.inside.Lane.{Front}
use Rattle.grid_bound.specs.inside.Lane.{first_parcel, second_parcel, all_come, unread, unissued, ready, answerable}
use Rattle.grid_bound.specs.inside.Sending.{pick, none_busy, station_of, tile_of, reads_front}
use Rattle.grid_bound.specs.inside.Turning.{finished, finish_front}
use Rattle.grid_bound.specs.inside.Turning.{busy, issued, issue_front}
use Rattle.grid_bound.specs.inside.Moving.{is_nowhere}
use Rattle.grid_bound.proofs.Counting.{pick_may}
use Rattle.grid_bound.proofs.Stuck.{Active, reads, answers, fires, works, travels}
use Rattle.grid_bound.proofs.PartsLowerWork.{idle_is, standing_is}

-- a parcel stands in one of a task's places
abbrev pub Carries : Phase → Type 0
Carries w = (is_nowhere (first_parcel w) ≡ false) ⊎ (is_nowhere (second_parcel w) ≡ false)

-- a task has a parcel on the mesh
abbrev pub HasParcel : Front → Type 0
HasParcel f = (x : ℕ) × (x < f.course.room) × Carries (f.at x)

abbrev pub UsesUnit : Front → Type 0
UsesUnit f = (x : ℕ) × (x < f.course.room) × ((ready f x ≡ true) ⊎ (f.at x ≡ Working))

-- what acts in part (5) or (6), and what in part (4) or later
abbrev pub Later5 : Front → Type 0
Later5 f = UsesUnit f ⊎ HasParcel f

-- a task may be answered by a data tile, or acts or travels from part (5) on
abbrev pub Later4 : Front → Type 0
Later4 f = ((x : ℕ) × (x < f.course.room) × (answerable f x ≡ true)) ⊎ Later5 f

both_here : (true ≡ false) ⊎ (true ≡ false) → ⊥
both_here (inl h) = cc
both_here (inr h) = cc

idle_bare : (w : Phase) → w ≡ Idle → Carries w → ⊥
idle_bare w e t = both_here (subst Carries e t)

working_bare : (w : Phase) → w ≡ Working → Carries w → ⊥
working_bare w e t = both_here (subst Carries e t)

-- (3) -------------------------------------------------------------------------------------------

module _ (f : Front) where
  abbrev picked : ℕ → Bool
  picked x = pick (unread f) (station_of f) none_busy x

  read_idle : (x : ℕ) → picked x ≡ true → (f.at x ≡ Idle) × (is_reading (f.course.task x).kind ≡ true)
  read_idle x e =
      let b : (is_idle (f.at x) ≡ true) × (is_reading (f.course.task x).kind ≡ true) =
      and_parts (is_idle (f.at x)) _ (pick_may (unread f) (station_of f) none_busy x e) in
      (idle_is _ b.0, b.1)

  -- what is not chosen stays
  same_at : (x : ℕ) → (picked x ≡ true → ⊥) → (reads_front f).at x ≡ f.at x
  same_at x n = at (cases_Bool (picked x))
    where
      at : (picked x ≡ true) ⊎ (picked x ≡ false) → (reads_front f).at x ≡ f.at x
      at (inl e) = absurd (n e)
      at (inr e) = cond-false (picked x) _ (f.at x) e

  not_read : (x : ℕ) → unissued f x ≡ true → picked x ≡ true → ⊥
  not_read x r e =
      let k : not (is_reading (f.course.task x).kind) ≡ true = (and_parts (is_idle (f.at x)) _ r).1 in
      both_ways _ (not-true _ k) (read_idle x e).1

  read_later5 : Later5 f → Later5 (reads_front f)
  read_later5 (inl (x, l, inl r)) = inl (
    x,
    l,
    inl (subst
        (λ w. ((is_idle w && not (is_reading (f.course.task x).kind))
        && ((f.course.task x).met && all_come f.come (f.course.task x).needs)) ≡ true)
        (sym (same_at x (not_read x (and_parts (unissued f x) _ r).0))) r),
  )
  read_later5 (inl (x, l, inr w)) = inl (
    x,
    l,
    inr (same_at x (λ e.
        let n : f.at x ≡ Idle = (read_idle x e).0 in let k : Idle ≡ Working = sym n ∙ w in cc) ∙ w),
  )
  read_later5 (inr (x, l, t)) = inr (
    x,
    l,
    subst Carries
        (sym (same_at x (λ e. idle_bare (f.at x) (read_idle x e).0 t))) t,
  )

  -- what acts or travels from part (4) on still does behind the banks
  pub read_later4 : Later4 f → Later4 (reads_front f)
  read_later4 (inl (x, l, a)) = inl (
    x,
    l,
    subst
        (λ w. (is_standing w && all_come f.come (f.course.task x).waits) ≡ true)
        (sym (same_at x (λ e. let n : f.at x ≡ Idle = (read_idle x e).0 in
        let k : f.at x ≡ Standing = standing_is _ (and_parts (is_standing (f.at x)) _ a).0 in
        let z : Idle ≡ Standing = sym n ∙ k in cc))) a,
  )
  read_later4 (inr r) = inr (read_later5 r)

-- (5) -------------------------------------------------------------------------------------------

still_parcel : (g : ℕ) (w : Phase) (c : ℕ) (n : Task) → Carries w → finished g w c n ≡ w
still_parcel g Absent c n t = refl
still_parcel g Idle c n t = refl
still_parcel g Working c n t = absurd (working_bare Working refl t)
still_parcel g (Asking p) c n t = refl
still_parcel g Standing c n t = refl
still_parcel g (Sent p q) c n t = refl

module _ (v : ℕ → ℕ) (f : Front) where
  abbrev f1 : Front
  f1 = finish_front v f

  -- a parcel's task does not turn
  pub turn_parcel : HasParcel f → HasParcel (issue_front v (finish_front v f))
  turn_parcel (x, l, t) = (x, l, subst Carries (sym (not_chosen (cases_Bool (issued v f1 x)))) t)
    where
      kept : f1.at x ≡ f.at x
      kept = still_parcel f.generation (f.at x) (v (tile_of f x)) (f.course.task x) t

      not_chosen : (issued v f1 x ≡ true) ⊎ (issued v f1 x ≡ false) → (issue_front v f1).at x ≡ f.at x
      not_chosen (inr e) = cond-false (issued v f1 x) Working (f1.at x) e ∙ kept
      not_chosen (inl e) =
          let r : ready f1 x ≡ true = pick_may (ready f1) (tile_of f) (busy v) x e in
          let i : f1.at x ≡ Idle = idle_is _ (and_parts (is_idle (f1.at x)) _ (and_parts (unissued f1 x) _ r).0).0 in
          absurd (idle_bare (f.at x) (sym kept ∙ i) t)

-- what acts at all
pub active_later : (f : Front) → Active f → ((x : ℕ) × (x < f.course.room) × (unread f x ≡ true)) ⊎ Later4 f
active_later f (reads x l e) = inl (x, l, e)
active_later f (answers x l e) = inr (inl (x, l, e))
active_later f (fires x l e) = inr (inr (inl (x, l, inl e)))
active_later f (works x l e) = inr (inr (inl (x, l, inr e)))
active_later f (travels x l t) = inr (inr (inr (x, l, t)))
