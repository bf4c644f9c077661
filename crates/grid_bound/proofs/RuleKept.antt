-- The rule of lanes is kept by each part of a cycle.
use Rattle.std.proofs.Common.{◌≡◌, ℕ, zero, suc, ◌*◌, ◌<◌, ◌≤◌, Bool, true, false, cond, ◌==◌, ◌&&◌, refl, sym, ◌∙◌}
use Rattle.std.proofs.Common.{arith}
use Rattle.std.proofs.lemmas.Bool.{and_parts, and_from, or_left, or_right, cond_both, cond-false, eq-eqb, ltb-false}
use Rattle.operand_net.specs.declared.parcel.Stand.{Stand}
use Rattle.operand_net.specs.declared.parcel.Stand.TheVariants.{Nowhere, Away, Held}
use Rattle.grid_bound.specs.inside.Course.{Kind, Reading, Plain, Serving, Task, Course, GoodTask}
use Rattle.grid_bound.specs.inside.Lane.{Phase, Absent, Idle, Working, Asking, Standing, Sent, is_idle, is_there}
use Rattle.grid_bound.specs.inside.Lane.{first_parcel, second_parcel, Front, unread, unissued, ready}
use Rattle.grid_bound.specs.inside.Sending.{found, pick, none_busy, station_of, tile_of, launch, sent_from, result}
use Rattle.grid_bound.specs.inside.Sending.{fresh, reads_front}
use Rattle.grid_bound.specs.inside.Turning.{finished, finish_front, busy, issued, issue_front, units_after, less_one}
use Rattle.grid_bound.specs.inside.Moving.{goes, free_at, asked, moved, landed, delivers, move_at, move_front}
use Rattle.grid_bound.specs.inside.Laws.{Bounded, Landed, FineAt, Fine, Placed}
use Rattle.grid_bound.proofs.Counting.{any_from, pick_may, pick_free, found_pos}
use Rattle.grid_bound.proofs.Mesh.{launch_landed, goes_bounded, landed_kept, way_bounded}
use Rattle.grid_bound.proofs.PartsLowerWork.{GoodTasks}

-- both parcels of a good task that are launched on the mesh are where they are to be
pub sent_fine : (come : ℕ → Bool) (g p : ℕ) (n : Task) → p < 25 → GoodTask n
    → Landed come (launch g p n.first) n.first × Landed come (launch g p n.second) n.second
sent_fine come g p n l k = (launch_landed come g p n.first l k.first, launch_landed come g p n.second l k.second)

-- the banks keep the rule of tasks
pub fine_read : (u : ℕ → ℕ) (f : Front) → GoodTasks f → Fine u f → Fine u (reads_front f)
fine_read u f good fine x l = cond_both (pick (unread f) (station_of f) none_busy x)
    (sent_from f.generation (f.course.task x).here (f.course.task x)) (f.at x) (FineAt u f.come (f.course.task x))
    (λ e. sent_fine f.come f.generation (f.course.task x).here (f.course.task x) (good x).here (good x))
    (λ e. fine x l)

-- the banks leave which tasks there are
pub placed_read : (f : Front) → Placed f → Placed (reads_front f)
placed_read f placed x l = cond_both (pick (unread f) (station_of f) none_busy x)
    (sent_from f.generation (f.course.task x).here (f.course.task x)) (f.at x)
    (λ w. is_there w ≡ (f.course.task x).declared)
    (λ e. sym (there (f.at x) (and_parts (is_idle (f.at x)) _ (pick_may (unread f) (station_of f) none_busy x e)).0)
    ∙ placed x l) (λ e. placed x l)
  where
    there : (w : Phase) → is_idle w ≡ true → is_there w ≡ true
    there Absent h = absurd (cc)
    there Idle h = refl
    there Working h = refl
    there (Asking p) h = refl
    there Standing h = refl
    there (Sent p q) h = refl

-- a fresh front has the rule of tasks
pub fine_fresh : (u : ℕ → ℕ) (g : ℕ) (c : Course) (s : Bool) → Fine u (fresh g c s)
fine_fresh u g c s x l =
    cond_both (c.task x).declared Idle Absent (FineAt u (λ q. false) (c.task x)) (λ e. tt) (λ e. tt)

-- a fresh front has the tasks that its block has
pub placed_fresh : (g : ℕ) (c : Course) (s : Bool) → Placed (fresh g c s)
placed_fresh g c s x l = go (c.task x).declared
  where
    go : (b : Bool) → is_there (cond b Idle Absent) ≡ b
    go true = refl
    go false = refl

-- units -----------------------------------------------------------------------------------------

pub after_grows : (u : ℕ → ℕ) (f : Front) (t : ℕ) → u t ≤ units_after u f t
after_grows u f t = cond_both (busy u t) (u t)
    (found f.course.room (λ x. issued u f x && tile_of f x == t) (λ x. (f.course.task x).latency)) (λ k. u t ≤ k)
    (λ e. omega arith) (λ e. let z : u t ≤ 0 = ltb-false 0 (u t) e in omega (arith, z))

result_fine : (u : ℕ → ℕ) (come : ℕ → Bool) (g : ℕ) (n : Task) (k : Kind) → GoodTask n
    → FineAt u come n (result g k n)
result_fine u come g n Reading k = sent_fine come g n.here n k.here k
result_fine u come g n Plain k = sent_fine come g n.here n k.here k
result_fine u come g n Serving k = (k.here, k.served_at)

finished_fine : (u ud : ℕ → ℕ) (come : ℕ → Bool) (g : ℕ) (n : Task) (w : Phase) (c : ℕ) → GoodTask n
    → (1 ≤ c → 1 ≤ ud n.tile) → FineAt u come n w → FineAt ud come n (finished g w c n)
finished_fine u ud come g n Absent c good h k = tt
finished_fine u ud come g n Idle c good h k = tt
finished_fine u ud come g n Working zero good h k = result_fine ud come g n n.kind good
finished_fine u ud come g n Working (suc c) good h k = h (omega arith)
finished_fine u ud come g n (Asking p) c good h k = k
finished_fine u ud come g n Standing c good h k = tt
finished_fine u ud come g n (Sent p q) c good h k = k

finished_there : (g : ℕ) (w : Phase) (c : ℕ) (n : Task) → is_there (finished g w c n) ≡ is_there w
finished_there g Absent c n = refl
finished_there g Idle c n = refl
finished_there g Working zero n = go n.kind
  where
    go : (k : Kind) → is_there (result g k n) ≡ true
    go Reading = refl
    go Plain = refl
    go Serving = refl
finished_there g Working (suc c) n = refl
finished_there g (Asking p) c n = refl
finished_there g Standing c n = refl
finished_there g (Sent p q) c n = refl

-- the units leave which tasks there are
pub placed_units : (u : ℕ → ℕ) (f : Front) → Placed f → Placed (issue_front u (finish_front u f))
placed_units u f placed x l = cond_both (issued u (finish_front u f) x) Working ((finish_front u f).at x)
    (λ w. is_there w ≡ (f.course.task x).declared)
    (λ e. sym (there ((finish_front u f).at x) (idle e)) ∙ kept) (λ e. kept)
  where
    kept : is_there ((finish_front u f).at x) ≡ (f.course.task x).declared
    kept = finished_there f.generation (f.at x) (u (tile_of f x)) (f.course.task x) ∙ placed x l

    idle : issued u (finish_front u f) x ≡ true → is_idle ((finish_front u f).at x) ≡ true
    idle e = (and_parts (is_idle ((finish_front u f).at x)) _ (and_parts (unissued (finish_front u f) x) _
        (pick_may (ready (finish_front u f)) (tile_of f) (busy u) x e)).0).0

    there : (w : Phase) → is_idle w ≡ true → is_there w ≡ true
    there Absent h = absurd (cc)
    there Idle h = refl
    there Working h = refl
    there (Asking p) h = refl
    there Standing h = refl
    there (Sent p q) h = refl

-- the units' turn, where `ud` are busy at least as long as after the frame's own turn
module _ (u ud : ℕ → ℕ) (f : Front) where
  abbrev v : ℕ → ℕ
  v = less_one u

  abbrev f1 : Front
  f1 = finish_front (less_one u) f

  -- the units keep the rule of tasks
  pub fine_units : GoodTasks f → ((t : ℕ) → units_after (less_one u) (finish_front (less_one u) f) t ≤ ud t)
      → Fine u f
      → Fine ud (issue_front (less_one u) (finish_front (less_one u) f))
  fine_units good kept fine x l = cond_both (issued v f1 x) Working
      (finished f.generation (f.at x) (v (tile_of f x)) (f.course.task x)) (FineAt ud f.come (f.course.task x))
      (λ e.
      let n : busy v (tile_of f x) ≡ false = pick_free (ready f1) (tile_of f) (busy v) x e in
      let a : 1 ≤ found f.course.room (λ y. issued v f1 y && tile_of f y == tile_of f x)
      (λ y. (f.course.task y).latency) =
      found_pos f.course.room _ _ x (λ y m. (good y).takes) l
      (and_from (issued v f1 x) _ e (eq-eqb (tile_of f x) (tile_of f x) refl)) in
      let b : units_after v f1 (tile_of f x)
      ≡ found f.course.room (λ y. issued v f1 y && tile_of f y == tile_of f x) (λ y. (f.course.task y).latency) =
      cond-false (busy v (tile_of f x)) _ _ n in
      let c : units_after v f1 (tile_of f x) ≤ ud (tile_of f x) = kept (tile_of f x) in
      omega (arith, a, b, c))
      (λ e. finished_fine u ud f.come f.generation (f.course.task x) (f.at x) (v (tile_of f x)) (good x)
      (λ i. let b : v (tile_of f x) ≤ units_after v f1 (tile_of f x) = after_grows v f1 (tile_of f x) in
      let c : units_after v f1 (tile_of f x) ≤ ud (tile_of f x) = kept (tile_of f x) in
      omega (arith, i, b, c))
      (fine x l))

-- the mesh --------------------------------------------------------------------------------------

asked_fine : (u : ℕ → ℕ) (come : ℕ → Bool) (n : Task) (p : Stand) → Bounded p → FineAt u come n (asked p)
asked_fine u come n Nowhere b = tt
asked_fine u come n (Away trip a) b = b
asked_fine u come n (Held trip k) b = b

moved_fine : (u : ℕ → ℕ) (come come2 : ℕ → Bool) (n : Task) (m k : Bool) (h j : ℕ) (w : Phase) → h ≤ 3 → j ≤ 3
    → ((s : ℕ) → come s ≡ true → come2 s ≡ true)
    → ((s : ℕ) → delivers w (moved m k h j w) n s ≡ true → come2 s ≡ true) → FineAt u come n w
    → FineAt u come2 n (moved m k h j w)
moved_fine u come come2 n m k h j Absent a b more new f = tt
moved_fine u come come2 n m k h j Idle a b more new f = tt
moved_fine u come come2 n m k h j Working a b more new f = f
moved_fine u come come2 n m k h j (Asking p) a b more new f =
    asked_fine u come2 n (goes m h p) (goes_bounded m h p a (way_bounded p f))
moved_fine u come come2 n m k h j Standing a b more new f = tt
moved_fine u come come2 n m k h j (Sent p q) a b more new f = (
  landed_kept m h come come2 p n.first a more
      (λ s e. new s (or_left (landed p (goes m h p) n.first s) _ e)) f.0,
  landed_kept k j come come2 q n.second b more
      (λ s e. new s (or_right (landed p (goes m h p) n.first s) _ e)) f.1,
)

moved_there : (m k : Bool) (h j : ℕ) (w : Phase) → is_there (moved m k h j w) ≡ is_there w
moved_there m k h j Absent = refl
moved_there m k h j Idle = refl
moved_there m k h j Working = refl
moved_there m k h j (Asking p) = go (goes m h p)
  where
    go : (s : Stand) → is_there (asked s) ≡ true
    go Nowhere = refl
    go (Away trip a) = refl
    go (Held trip i) = refl
moved_there m k h j Standing = refl
moved_there m k h j (Sent p q) = refl

module _ (f : Front) (hold : ℕ → ℕ) where
  -- the mesh leaves which tasks there are
  pub placed_move : Placed f → Placed (move_front hold f)
  placed_move placed x l = moved_there (free_at f (2 * x) (first_parcel (f.at x)))
      (free_at f (suc (2 * x)) (second_parcel (f.at x))) (hold (2 * x)) (hold (suc (2 * x))) (f.at x) ∙ placed x l

  -- the mesh keeps the rule of tasks
  pub fine_move : (u : ℕ → ℕ) → ((p : ℕ) → hold p ≤ 3) → Fine u f → Fine u (move_front hold f)
  fine_move u holds fine x l = moved_fine u f.come (move_front hold f).come (f.course.task x)
      (free_at f (2 * x) (first_parcel (f.at x))) (free_at f (suc (2 * x)) (second_parcel (f.at x))) (hold (2 * x))
      (hold (suc (2 * x))) (f.at x) (holds (2 * x)) (holds (suc (2 * x)))
      (λ s e. or_left (f.come s) _ e)
      (λ s e. or_right (f.come s) _ (any_from f.course.room
      (λ y. delivers (f.at y) (move_at hold f y) (f.course.task y) s) x l e))
      (fine x l)
