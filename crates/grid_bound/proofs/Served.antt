-- A served cycle commits the block, or lowers what is left.
use Rattle.std.proofs.Common.{◌≡◌, ℕ, zero, suc, ◌+◌, ◌*◌, ◌<◌, ◌≤◌, Bool, true, false}
use Rattle.std.proofs.Common.{◌⊎◌, inl, inr, Option, Some, None, refl, sym, ap, ◌∙◌, subst, arith}
use Rattle.std.proofs.lemmas.Bool.{cond_both, cond-true, cond-false, both_ways, lt-ltb}
use Rattle.grid_bound.specs.inside.Course.{Course, Good, tasks}
use Rattle.grid_bound.specs.inside.Lane.{Front, Stage, Running, Fetching, Lane, unread}
use Rattle.grid_bound.specs.inside.Lane.{is_complete}
use Rattle.grid_bound.specs.inside.Sending.{station_of, fresh, fetching, reads_front, reading}
use Rattle.grid_bound.specs.inside.Answering.{TilesAnswer}
use Rattle.grid_bound.specs.inside.Turning.{less_one}
use Rattle.grid_bound.specs.inside.Turning.{finish_front, busy, units_after, turning, own_units}
use Rattle.grid_bound.specs.inside.Moving.{move_front, moving}
use Rattle.grid_bound.specs.inside.Serving.{Serves, Served}
use Rattle.grid_bound.specs.inside.Left.{work, most, reserve, fetch_left, stage_left, left, price}
use Rattle.grid_bound.specs.inside.Laws.{FineAt, AtMost, StageRule, LaneRule, Falls}
use Rattle.grid_bound.proofs.Stuck.{Active, never_stuck}
use Rattle.grid_bound.proofs.PartsLowerWork.{read_le, read_drop, move_le, move_drop}
use Rattle.grid_bound.proofs.CycleUnits.{turn_le, turn_drop}
use Rattle.grid_bound.proofs.RuleKept.{fine_read, placed_read, fine_fresh, placed_fresh, fine_units, placed_units}
use Rattle.grid_bound.proofs.RuleKept.{fine_move, placed_move}
use Rattle.grid_bound.proofs.WorkBound.{work_most}
use Rattle.grid_bound.proofs.StillActing.{HasParcel, Later5, Later4, read_later4, turn_parcel, active_later}
use Rattle.grid_bound.proofs.Tiles.{Here, some_tiles}

abbrev OnStage : (Front → Type 0) → Stage → Type 0
OnStage Q (Running f) = Q f
OnStage Q (Fetching o s) = ⊥

module _ (n : ℕ) (u : ℕ → ℕ) (fits : (t : ℕ) → u t ≤ 24) where
  -- (2)
  fetch_rule : (g : ℕ) (c : Course) → tasks c ≡ n → Good c → (s : Stage) → StageRule n u s
      → StageRule n u (fetching g c s)
  fetch_rule g c e good (Running f) r = r
  fetch_rule g c e good (Fetching None s) r = omega arith
  fetch_rule g c e good (Fetching (Some zero) s) r = record {
    size = e;
    good = good;
    placed = placed_fresh g c s;
    fine = fine_fresh u g c s;
  }
  fetch_rule g c e good (Fetching (Some (suc k)) s) r = let i : suc k ≤ 7 = r in omega (arith, i)

  fetch_falls : (g : ℕ) (c : Course) → tasks c ≡ n → (o : Option ℕ) (s : Bool)
      → stage_left n u (fetching g c (Fetching o s)) + 1 ≤ stage_left n u (Fetching o s)
  fetch_falls g c e None s = omega arith
  fetch_falls g c e (Some zero) s =
      let a : work u (fresh g c s) ≤ most (tasks c) =
      work_most u fits (fresh g c s) (placed_fresh g c s) (fine_fresh u g c s) in
      let r : reserve s (tasks c) ≡ reserve s n = ap (reserve s) e in
      omega (arith, a, r, e)
  fetch_falls g c e (Some (suc k)) s = omega arith

  -- (3)
  read_rule : (s : Stage) → StageRule n u s → StageRule n u (reading s)
  read_rule (Running f) r = record {
    size = r.size;
    good = r.good;
    placed = placed_read f r.placed;
    fine = fine_read u f r.good.by.good r.fine;
  }
  read_rule (Fetching o s) r = r

  reads_le : (s : Stage) → StageRule n u s → stage_left n u (reading s) ≤ stage_left n u s
  reads_le (Running f) r =
      let a : work u (reads_front f) ≤ work u f = read_le u fits f r.good.by.good in omega (arith, a)
  reads_le (Fetching o s) r = omega arith

  reads_st : (s : Stage) → StageRule n u s → OnStage Active s
      → (stage_left n u (reading s) + 1 ≤ stage_left n u s) ⊎ OnStage Later4 (reading s)
  reads_st (Fetching o s) r a = absurd a
  reads_st (Running f) r a = two (active_later f a)
    where
      two : ((x : ℕ) × (x < f.course.room) × (unread f x ≡ true)) ⊎ Later4 f
          → (stage_left n u (reading (Running f)) + 1 ≤ stage_left n u (Running f)) ⊎ Later4 (reads_front f)
      two (inl (x, l, e)) = inl
          (let b : work u (reads_front f) + 1 ≤ work u f = read_drop u fits f r.good.by.good x l e in
          omega (arith, b))
      two (inr k) = inr (read_later4 f k)

  -- (4)
  answers_st : (s t : Stage) → StageRule n u s → TilesAnswer 4 s t → OnStage Later4 s
      → (stage_left n u t + 1 ≤ stage_left n u s) ⊎ OnStage Later5 t
  answers_st s t r a k = go s r k (some_tiles n u fits 4 s t r a).1
    where
      go : (s : Stage) → StageRule n u s → OnStage Later4 s
          → (stage_left n u t + 1 ≤ stage_left n u s) ⊎ ((t ≡ s) × ((k : ℕ) → k < 4 → Here k s → ⊥))
          → (stage_left n u t + 1 ≤ stage_left n u s) ⊎ OnStage Later5 t
      go s r k (inl d) = inl d
      go (Fetching o b) r k (inr d) = absurd k
      go (Running f) r (inr k) (inr d) = inr (subst (OnStage Later5) (sym d.0) k)
      go (Running f) r (inl (x, l, i)) (inr d) =
          absurd (d.1 (station_of f x) (r.good.by.good x).station (x, l, i, refl))

  -- (5)
  module _ (u2 : ℕ → ℕ) (fits2 : (t : ℕ) → u2 t ≤ 24) where
    abbrev Own : Stage → Type 0
    Own s = (t : ℕ) → 1 ≤ own_units u s t → u2 t ≡ own_units u s t

    stays : (f : Front) → Own (Running f) → (t : ℕ) → 1 ≤ less_one u t → u2 t ≡ less_one u t
    stays f own t l =
        let e : units_after (less_one u) (finish_front (less_one u) f) t ≡ less_one u t =
        cond-true (busy (less_one u) t) _ _ (lt-ltb 0 (less_one u t) l) in
        own t (rw e l) ∙ e

    at_least : (f : Front) → Own (Running f) → (t : ℕ)
        → units_after (less_one u) (finish_front (less_one u) f) t ≤ u2 t
    at_least f own t = go (units_after (less_one u) (finish_front (less_one u) f) t) (own t)
      where
        go : (k : ℕ) → (1 ≤ k → u2 t ≡ k) → k ≤ u2 t
        go zero h = omega arith
        go (suc k) h = let e : u2 t ≡ suc k = h (omega arith) in omega (arith, e)

    turn_rule : (s : Stage) → StageRule n u s → Own s → StageRule n u2 (turning u s)
    turn_rule (Running f) r own = record {
      size = r.size;
      good = r.good;
      placed = placed_units (less_one u) f r.placed;
      fine = fine_units u u2 f r.good.by.good (at_least f own) r.fine;
    }
    turn_rule (Fetching o s) r own = r

    turns_le : (s : Stage) → StageRule n u s → Own s → stage_left n u2 (turning u s) ≤ stage_left n u s
    turns_le (Running f) r own =
        let a = turn_le u u2 fits fits2 f r.good.by.good (stays f own) in omega (arith, a)
    turns_le (Fetching o s) r own = omega arith

    turns_st : (s : Stage) → StageRule n u s → Own s → OnStage Later5 s
        → (stage_left n u2 (turning u s) + 1 ≤ stage_left n u s) ⊎ OnStage HasParcel (turning u s)
    turns_st (Fetching o s) r own a = absurd a
    turns_st (Running f) r own (inl (x, l, inl e)) =
        inl (let a = turn_drop u u2 fits fits2 f r.good.by.good (stays f own) x l (inl e) in omega (arith, a))
    turns_st (Running f) r own (inl (x, l, inr e)) =
        inl (let a = turn_drop u u2 fits fits2 f r.good.by.good (stays f own) x l
        (inr (e, subst (FineAt u f.come (f.course.task x)) e (r.fine x l))) in omega (arith, a))
    turns_st (Running f) r own (inr a) = inr (turn_parcel (less_one u) f a)

  -- (6)
  module _ (hold : ℕ → ℕ) (holds : (p : ℕ) → hold p ≤ 3) where
    move_rule : (s : Stage) → StageRule n u s → StageRule n u (moving hold s)
    move_rule (Running f) r = record {
      size = r.size;
      good = r.good;
      placed = placed_move f hold r.placed;
      fine = fine_move f hold u holds r.fine;
    }
    move_rule (Fetching o s) r = r

    moves_le : (s : Stage) → StageRule n u s → stage_left n u (moving hold s) ≤ stage_left n u s
    moves_le (Running f) r =
        let a : work u (move_front hold f) ≤ work u f = move_le u fits f r.good.by.good r.fine hold holds in
        omega (arith, a)
    moves_le (Fetching o s) r = omega arith

    moves_st : (s : Stage) → StageRule n u s → OnStage HasParcel s
        → stage_left n u (moving hold s) + 1 ≤ stage_left n u s
    moves_st (Running f) r (x, l, t) =
        let a : work u (move_front hold f) + 1 ≤ work u f =
        move_drop u fits f r.good.by.good r.fine hold holds x l t in
        omega (arith, a)
    moves_st (Fetching o s) r a = absurd a

-- what is left ------------------------------------------------------------------------------------

-- a stage has at least a cycle left, and by its rule at most its price
stage_some : (n : ℕ) (u : ℕ → ℕ) (s : Stage) → 1 ≤ stage_left n u s
stage_some n u (Running f) = omega arith
stage_some n u (Fetching None s) = omega arith
stage_some n u (Fetching (Some k) s) = omega arith

-- what is kept for a flush is at most a fetch and its work
pub reserve_most : (b : Bool) (n : ℕ) → reserve b n ≤ 256 + 128 * n
reserve_most true n = omega arith
reserve_most false n = omega arith

fetch_most : (o : Option ℕ) → AtMost o 7 → fetch_left o ≤ 10
fetch_most None l = omega arith
fetch_most (Some n) l = let i : n ≤ 7 = l in omega (arith, i)

stage_most : (n : ℕ) (u : ℕ → ℕ) → ((t : ℕ) → u t ≤ 24) → (s : Stage) → StageRule n u s → stage_left n u s ≤ price n
stage_most n u fits (Running f) r =
    let a : work u f ≤ most (tasks f.course) = work_most u fits f r.placed r.fine in
    let b : reserve f.careful (tasks f.course) ≤ 256 + 128 * tasks f.course =
    reserve_most f.careful (tasks f.course) in
    let d : tasks f.course ≡ n = r.size in
    omega (arith, a, b, d)
stage_most n u fits (Fetching o s) r =
    let a : fetch_left o ≤ 10 = fetch_most o r in
    let b : reserve s n ≤ 256 + 128 * n = reserve_most s n in
    omega (arith, a, b)

-- something is always left
pub left_some : (sizes : ℕ → ℕ) (l : Lane) → 1 ≤ left sizes l
left_some sizes l = cond_both (is_complete l.stage) 1 (stage_left (sizes l.done) l.units l.stage) (λ n. 1 ≤ n)
    (λ e. omega arith) (λ e. stage_some (sizes l.done) l.units l.stage)

-- what is left is at most the price of the block
pub left_most : (sizes : ℕ → ℕ) (l : Lane) → LaneRule sizes l → left sizes l ≤ price (sizes l.done)
left_most sizes l r = cond_both (is_complete l.stage) 1 (stage_left (sizes l.done) l.units l.stage)
    (λ n. n ≤ price (sizes l.done)) (λ e. omega arith) (λ e. go e r.stage)
  where
    go : is_complete l.stage ≡ false → (is_complete l.stage ≡ true) ⊎ StageRule (sizes l.done) l.units l.stage
        → stage_left (sizes l.done) l.units l.stage ≤ price (sizes l.done)
    go e (inl h) = absurd (both_ways _ e h)
    go e (inr h) = stage_most (sizes l.done) l.units r.units l.stage h

-- a served cycle ----------------------------------------------------------------------------------

module _ (sizes : ℕ → ℕ) (l m : Lane) (units : (t : ℕ) → l.units t ≤ 24)
    (r : StageRule (sizes l.done) l.units l.stage) (v : Serves sizes l m) where
  abbrev c : ℕ
  c = sizes l.done

  abbrev s2 : Stage
  s2 = fetching v.generation v.filled l.stage

  abbrev s3 : Stage
  s3 = reading s2

  abbrev s4 : Stage
  s4 = v.answered

  abbrev s5 : Stage
  s5 = turning l.units s4

  abbrev s6 : Stage
  s6 = moving v.hold s5

  r2 : StageRule c l.units s2
  r2 = fetch_rule c l.units units v.generation v.filled v.is_filled v.good l.stage r

  r3 : StageRule c l.units s3
  r3 = read_rule c l.units units s2 r2

  r4 : StageRule c l.units s4
  r4 = (some_tiles c l.units units 4 s3 s4 r3 v.answers).0

  r5 : StageRule c m.units s5
  r5 = turn_rule c l.units units m.units v.units s4 r4 v.own

  r6 : StageRule c m.units s6
  r6 = move_rule c m.units v.units v.hold v.holds s5 r5

  a3 : stage_left c l.units s3 ≤ stage_left c l.units s2
  a3 = reads_le c l.units units s2 r2

  a4 : stage_left c l.units s4 ≤ stage_left c l.units s3
  a4 = go (some_tiles c l.units units 4 s3 s4 r3 v.answers).1
    where
      go : (stage_left c l.units s4 + 1 ≤ stage_left c l.units s3) ⊎ ((s4 ≡ s3) × ((k : ℕ) → k < 4 → Here k s3 → ⊥))
          → stage_left c l.units s4 ≤ stage_left c l.units s3
      go (inl h) = omega (arith, h)
      go (inr h) = let e : stage_left c l.units s4 ≡ stage_left c l.units s3 = ap (stage_left c l.units) h.0 in
          omega (arith, e)

  a5 : stage_left c m.units s5 ≤ stage_left c l.units s4
  a5 = turns_le c l.units units m.units v.units s4 r4 v.own

  a6 : stage_left c m.units s6 ≤ stage_left c m.units s5
  a6 = moves_le c m.units v.units v.hold v.holds s5 r5

  by_active : OnStage Active s2 → stage_left c m.units s6 + 1 ≤ stage_left c l.units s2
  by_active act = one (reads_st c l.units units s2 r2 act)
    where
      three : (stage_left c m.units s5 + 1 ≤ stage_left c l.units s4) ⊎ OnStage HasParcel s5
          → stage_left c m.units s6 + 1 ≤ stage_left c l.units s2
      three (inl a) = omega (arith, a, a3, a4, a6)
      three (inr k) = let a = moves_st c m.units v.units v.hold v.holds s5 r5 k in
          omega (arith, a, a3, a4, a5)

      two : (stage_left c l.units s4 + 1 ≤ stage_left c l.units s3) ⊎ OnStage Later5 s4
          → stage_left c m.units s6 + 1 ≤ stage_left c l.units s2
      two (inl a) = omega (arith, a, a3, a5, a6)
      two (inr k) = three (turns_st c l.units units m.units v.units s4 r4 v.own k)

      one : (stage_left c l.units s3 + 1 ≤ stage_left c l.units s2) ⊎ OnStage Later4 s3
          → stage_left c m.units s6 + 1 ≤ stage_left c l.units s2
      one (inl a) = omega (arith, a, a4, a5, a6)
      one (inr k) = two (answers_st c l.units units s3 s4 r3 v.answers k)

  falls_from : (s : Stage) → StageRule c l.units s → is_complete s ≡ false → fetching v.generation v.filled s ≡ s2
      → stage_left c m.units s6 + 1 ≤ stage_left c l.units s
  falls_from (Running f) k e i =
      let act : Active f = never_stuck l.units f k.good.rank k.good.top k.good.by k.placed k.fine e in
      let a : stage_left c m.units s6 + 1 ≤ stage_left c l.units s2 = by_active (subst (OnStage Active) i act) in
      let b : stage_left c l.units (Running f) ≡ stage_left c l.units s2 = ap (stage_left c l.units) i in
      omega (arith, a, b)
  falls_from (Fetching o b) k e i =
      let a : stage_left c l.units (fetching v.generation v.filled (Fetching o b)) + 1
      ≤ stage_left c l.units (Fetching o b) =
      fetch_falls c l.units units v.generation v.filled v.is_filled o b in
      let d : stage_left c l.units (fetching v.generation v.filled (Fetching o b)) ≡ stage_left c l.units s2 =
      ap (stage_left c l.units) i in
      omega (arith, a, a3, a4, a5, a6, d)

  pub serves_falls : is_complete l.stage ≡ false → Falls sizes l m
  serves_falls open' = inr (
    v.done,
    record {
      units = v.units;
      stage = inr (subst (λ s. StageRule (sizes m.done) m.units s) (sym v.stage)
          (subst (λ d. StageRule (sizes d) m.units s6) (sym v.done) r6));
    },
    lower,
  )
    where
      now : left sizes l ≡ stage_left c l.units l.stage
      now = cond-false (is_complete l.stage) _ _ open'

      after : left sizes m ≤ stage_left c m.units s6
      after = cond_both (is_complete m.stage) 1 (stage_left (sizes m.done) m.units m.stage)
          (λ n. n ≤ stage_left c m.units s6) (λ e. stage_some c m.units s6)
          (λ e. let b : stage_left (sizes m.done) m.units m.stage ≡ stage_left c m.units s6 =
          ap (λ d. stage_left (sizes d) m.units m.stage) v.done ∙ ap (stage_left c m.units) v.stage in
          omega (arith, b))

      lower : left sizes m < left sizes l
      lower = let a : stage_left c m.units s6 + 1 ≤ stage_left c l.units l.stage = falls_from l.stage r open' refl in
          omega (arith, a, now, after)

-- a served cycle lowers what is left, or commits the block
pub served_falls : (sizes : ℕ → ℕ) (l m : Lane) → LaneRule sizes l → Served sizes l m
    → Falls sizes l m
served_falls sizes l m r (inl h) = inl h.1
served_falls sizes l m r (inr h) = go r.stage
  where
    go : (is_complete l.stage ≡ true) ⊎ StageRule (sizes l.done) l.units l.stage → Falls sizes l m
    go (inl e) = absurd (both_ways _ h.0 e)
    go (inr k) = serves_falls sizes l m r.units k h.1 h.0
