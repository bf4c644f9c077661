-- A frame's work, tile by tile.
use Rattle.std.proofs.Common.{◌≡◌, ℕ, ◌+◌, ◌*◌, ◌<◌, ◌≤◌, Bool, true, false, cond, ◌==◌, ◌&&◌}
use Rattle.std.proofs.Common.{refl, sym, subst, arith}
use Rattle.std.proofs.lemmas.Bool.{and_parts, and_from, eqb-true, eq-eqb, both_ways}
use Rattle.grid_bound.specs.inside.Course.{Course, sum}
use Rattle.grid_bound.specs.inside.Lane.{any, Phase, Front, unissued, ready}
use Rattle.grid_bound.specs.inside.Left.{task_left, wait_left, on_tile, count_on, tile_left, work}
use Rattle.grid_bound.proofs.Counting.{any_true, any_from, any_more, sum_le, sum_drop}

-- the wait of entries on a tile does not rise where their unit is less busy, or free for what is ready, and
-- they are no more
pub wait_le : (c c2 : ℕ) (r r2 : Bool) (v v2 : ℕ) → c2 ≤ c → c2 ≤ 24 → (r ≡ true → r2 ≡ true) → v2 ≤ v
    → (r2 ≡ true → 1 ≤ v2) → wait_left c2 r2 v2 ≤ wait_left c r v
wait_le c c2 true true v v2 l m a b k = omega arith
wait_le c c2 true false v v2 l m a b k = absurd (both_ways false refl (a refl))
wait_le c c2 false true v v2 l m a b k = let i : 1 ≤ v2 = k refl in omega (arith, i)
wait_le c c2 false false v v2 l m a b k = omega arith

-- entries on a tile wait at most 24 cycles each
pub wait_cap : (c : ℕ) (r : Bool) (v : ℕ) → c ≤ 24 → (r ≡ true → 1 ≤ v) → wait_left c r v ≤ 24 * v
wait_cap c true v l k = let i : 1 ≤ v = k refl in omega (arith, i)
wait_cap c false v l k = omega arith

-- what the tasks of a tile have left together
abbrev pub on : Course → (ℕ → ℕ) → (ℕ → Phase) → ℕ → ℕ
on c u at t = sum c.room (λ x. cond ((c.task x).tile == t) (task_left (u t) (at x)) 0)

one_le : (b : Bool) (x y : ℕ) → (b ≡ true → x ≤ y) → cond b x 0 ≤ cond b y 0
one_le true x y h = h refl
one_le false x y h = omega arith

-- of the nodes of tile t none rises
abbrev pub Low : Course → (ℕ → ℕ) → (ℕ → ℕ) → (ℕ → Phase) → (ℕ → Phase) → ℕ → Type 0
Low c u u2 at at2 t = (x : ℕ) → x < c.room → (c.task x).tile ≡ t → task_left (u2 t) (at2 x) ≤ task_left (u t) (at x)

-- where nothing rises for the tasks of a tile, nothing does for them together
pub on_le : (c : Course) (u u2 : ℕ → ℕ) (at at2 : ℕ → Phase) (t : ℕ) → Low c u u2 at at2 t
    → on c u2 at2 t ≤ on c u at t
on_le c u u2 at at2 t low =
    sum_le c.room _ _ (λ x l. one_le ((c.task x).tile == t) _ _ (λ e. low x l (eqb-true _ _ e)))

-- where one task of a tile is lower by d, and none rises, all together are lower by d
pub on_drop : (c : Course) (u u2 : ℕ → ℕ) (at at2 : ℕ → Phase) (t d x : ℕ) → Low c u u2 at at2 t → x < c.room
    → (c.task x).tile ≡ t → task_left (u2 t) (at2 x) + d ≤ task_left (u t) (at x) → on c u2 at2 t + d ≤ on c u at t
on_drop c u u2 at at2 t d x low l e h =
    sum_drop c.room _ _ d x (λ y m. one_le ((c.task y).tile == t) _ _ (λ i. low y m (eqb-true _ _ i))) l
    (simp (eq-eqb (c.task x).tile t e) h)

-- something on the tile
pub tile_more : (f f2 : Front) (p q : ℕ → Bool) (t : ℕ) → f2.course ≡ f.course
    → ((x : ℕ) → x < f.course.room → (f.course.task x).tile ≡ t → p x ≡ true → q x ≡ true) → on_tile f p t ≡ true
    → on_tile f2 q t ≡ true
tile_more f f2 p q t e h k = subst (λ (c : Course). any c.room (λ x. q x && (c.task x).tile == t) ≡ true) (sym e)
    (any_more f.course.room (λ x. p x && (f.course.task x).tile == t) (λ x. q x && (f.course.task x).tile == t)
    (λ x l i. let b : (p x ≡ true) × (((f.course.task x).tile == t) ≡ true) = and_parts (p x) _ i in
    and_from (q x) _ (h x l (eqb-true _ _ b.1) b.0) b.1) k)

-- where a task of a tile passes a test, some task of the tile does
pub on_tile_at : (f : Front) (p : ℕ → Bool) (x t : ℕ) → x < f.course.room → (f.course.task x).tile ≡ t → p x ≡ true
    → on_tile f p t ≡ true
on_tile_at f p x t l e h =
    any_from f.course.room (λ x. p x && (f.course.task x).tile == t) x l (and_from (p x) _ h (eq-eqb _ _ e))

bit_le : (a b : Bool) → (a ≡ true → b ≡ true) → cond a 1 0 ≤ cond b 1 0
bit_le true true h = omega arith
bit_le true false h = absurd (both_ways false refl (h refl))
bit_le false true h = omega arith
bit_le false false h = omega arith

-- fewer entries
pub count_less : (f f2 : Front) (p q : ℕ → Bool) (t : ℕ) → f2.course ≡ f.course
    → ((x : ℕ) → x < f.course.room → q x ≡ true → p x ≡ true) → count_on f2 q t ≤ count_on f p t
count_less f f2 p q t e h =
    subst (λ (c : Course). sum c.room (λ x. cond (q x && (c.task x).tile == t) 1 0) ≤ count_on f p t) (sym e)
    (sum_le f.course.room _ _ (λ x l. bit_le (q x && (f.course.task x).tile == t) (p x && (f.course.task x).tile == t)
    (λ i. let b : (q x ≡ true) × (((f.course.task x).tile == t) ≡ true) = and_parts (q x) _ i in
    and_from (p x) _ (h x l b.0) b.1)))

-- where one task of a tile no longer passes a test, and none begins to, fewer of the tile pass
pub count_drop : (f f2 : Front) (p q : ℕ → Bool) (t x : ℕ) → f2.course ≡ f.course
    → ((x : ℕ) → x < f.course.room → q x ≡ true → p x ≡ true) → x < f.course.room → (f.course.task x).tile ≡ t
    → p x ≡ true → q x ≡ false → count_on f2 q t + 1 ≤ count_on f p t
count_drop f f2 p q t x e h l k a b =
    subst (λ (c : Course). sum c.room (λ x. cond (q x && (c.task x).tile == t) 1 0) + 1 ≤ count_on f p t) (sym e)
    (sum_drop f.course.room _ _ 1 x
    (λ x l. bit_le (q x && (f.course.task x).tile == t) (p x && (f.course.task x).tile == t)
    (λ i. let b : (q x ≡ true) × (((f.course.task x).tile == t) ≡ true) = and_parts (q x) _ i in
    and_from (p x) _ (h x l b.0) b.1)) l
    (simp (a, b, eq-eqb (f.course.task x).tile t k) (omega arith)))

pub count_some : (f : Front) (p : ℕ → Bool) (t : ℕ) → on_tile f p t ≡ true → 1 ≤ count_on f p t
count_some f p t e =
    let r : (x : ℕ) × (x < f.course.room) × ((p x && (f.course.task x).tile == t) ≡ true) =
    any_true f.course.room _ e in
    let z : sum f.course.room (λ x. 0) + 1 ≤ count_on f p t =
    sum_drop f.course.room (λ x. 0) (λ x. cond (p x && (f.course.task x).tile == t) 1 0) 1 r.0
    (λ x l. omega arith) r.1 (simp r.2 (omega arith)) in
    omega (arith, z)

-- where an entry of a tile is ready, one of the tile is unissued
pub ready_unissued : (f : Front) (t : ℕ) → on_tile f (ready f) t ≡ true → 1 ≤ count_on f (unissued f) t
ready_unissued f t e = count_some f (unissued f) t
    (tile_more f f (ready f) (unissued f) t refl (λ x l e h. (and_parts (unissued f x) _ h).0) e)

-- where nothing rises on any tile, the work does not rise
pub work_le : (u u2 : ℕ → ℕ) (f f2 : Front) → ((t : ℕ) → t < 16 → tile_left u2 f2 t ≤ tile_left u f t)
    → work u2 f2 ≤ work u f
work_le u u2 f f2 h = let a : sum 16 (tile_left u2 f2) ≤ sum 16 (tile_left u f) = sum_le 16 _ _ h in omega (arith, a)

-- where one tile has less, and none has more, the work is lower
pub work_drop : (u u2 : ℕ → ℕ) (f f2 : Front) (t : ℕ) → ((t : ℕ) → t < 16 → tile_left u2 f2 t ≤ tile_left u f t)
    → t < 16 → tile_left u2 f2 t + 1 ≤ tile_left u f t → work u2 f2 + 1 ≤ work u f
work_drop u u2 f f2 t h l d = let a : sum 16 (tile_left u2 f2) + 1 ≤ sum 16 (tile_left u f) =
    sum_drop 16 _ _ 1 t h l d in omega (arith, a)

-- a change under which no unit turns
module _ (u : ℕ → ℕ) (fits : (t : ℕ) → u t ≤ 24) (f : Front) (at2 : ℕ → Phase) (come2 : ℕ → Bool)
    (keeps : (x : ℕ) → x < f.course.room → unissued (record f { at = at2; come = come2 }) x ≡ true
    → unissued f x ≡ true)
    (more : (x : ℕ) → x < f.course.room → ready f x ≡ true → ready (record f { at = at2; come = come2 }) x ≡ true)
    (low : (x c : ℕ) → x < f.course.room → task_left c (at2 x) ≤ task_left c (f.at x)) where
  abbrev f2 : Front
  f2 = record f { at = at2; come = come2 }

  wait : (t : ℕ) → wait_left (u t) (on_tile f2 (ready f2) t) (count_on f2 (unissued f2) t)
      ≤ wait_left (u t) (on_tile f (ready f) t) (count_on f (unissued f) t)
  wait t = wait_le (u t) (u t) (on_tile f (ready f) t) (on_tile f2 (ready f2) t) (count_on f (unissued f) t)
      (count_on f2 (unissued f2) t) (omega arith) (fits t)
      (tile_more f f2 (ready f) (ready f2) t refl (λ x l e h. more x l h))
      (count_less f f2 (unissued f) (unissued f2) t refl (λ x l h. keeps x l h))
      (ready_unissued f2 t)

  tile : (t : ℕ) → t < 16 → tile_left u f2 t ≤ tile_left u f t
  tile t l = let a = wait t in
      let b : on f.course u at2 t ≤ on f.course u f.at t = on_le f.course u u f.at at2 t (λ x i e. low x (u t) i) in
      omega (arith, a, b)

  -- where no task has more left, and no entry becomes unissued, the work does not rise
  pub calm : work u f2 ≤ work u f
  calm = work_le u u f f2 tile

  -- where one task has less left besides, however long its unit is busy, the work is lower
  pub calm_drop : (x : ℕ) → x < f.course.room → (f.course.task x).tile < 16
      → ((c : ℕ) → task_left c (at2 x) + 1 ≤ task_left c (f.at x)) → work u f2 + 1 ≤ work u f
  calm_drop x l k d = work_drop u u f f2 (f.course.task x).tile tile k
      (let a = wait (f.course.task x).tile in
      let b : on f.course u at2 (f.course.task x).tile + 1 ≤ on f.course u f.at (f.course.task x).tile =
      on_drop f.course u u f.at at2 (f.course.task x).tile 1 x
      (λ y i e. low y (u (f.course.task x).tile) i) l refl (d (u (f.course.task x).tile)) in
      omega (arith, a, b))
