-- A block's work is at most its share.
use Rattle.std.proofs.Common.{◌≡◌, ℕ, zero, suc, ◌+◌, ◌*◌, ◌<◌, ◌≤◌, Bool, true, false, cond, ◌==◌, ◌&&◌, refl, sym}
use Rattle.std.proofs.Common.{◌∙◌, subst, arith}
use Rattle.std.proofs.lemmas.Bool.{and_parts, eqb-true}
use Rattle.grid_bound.specs.inside.Course.{Task, sum, tasks}
use Rattle.grid_bound.specs.inside.Lane.{Phase, Absent, Idle, Working, Asking, Standing, Sent, is_idle, is_there}
use Rattle.grid_bound.specs.inside.Lane.{Front, unissued, ready}
use Rattle.grid_bound.specs.inside.Left.{parcel_left, task_left, wait_left, on_tile, count_on, tile_left, work, most}
use Rattle.grid_bound.specs.inside.Laws.{FineAt, Fine, Placed}
use Rattle.grid_bound.proofs.Counting.{sum_le}
use Rattle.grid_bound.proofs.Work.{wait_cap, on, ready_unissued}
use Rattle.grid_bound.proofs.Mesh.{landed_bounded, way_bounded, bounded_left}

-- the most that a task has left, where it is there
fine_left : (u : ℕ → ℕ) (come : ℕ → Bool) (n : Task) (c : ℕ) (w : Phase) → c ≤ 24 → FineAt u come n w
    → task_left c w ≤ cond (is_there w) 63 0
fine_left u come n c Absent l f = omega arith
fine_left u come n c Idle l f = omega arith
fine_left u come n c Working l f = omega arith
fine_left u come n c (Asking p) l f =
    let a : parcel_left p ≤ 12 = bounded_left p (way_bounded p f) in omega (arith, a)
fine_left u come n c Standing l f = omega arith
fine_left u come n c (Sent p q) l f =
    let a : parcel_left p ≤ 12 = bounded_left p (landed_bounded come p n.first f.0) in
    let b : parcel_left q ≤ 12 = bounded_left q (landed_bounded come q n.second f.1) in
    omega (arith, a, b)

sum_add : (n : ℕ) (f g h : ℕ → ℕ) → ((x : ℕ) → x < n → f x + g x ≤ h x) → sum n f + sum n g ≤ sum n h
sum_add zero f g h l = omega arith
sum_add (suc n) f g h l = let a : f n + g n ≤ h n = l n (omega arith) in
    let b : sum n f + sum n g ≤ sum n h = sum_add n f g h (λ x m. l x (omega arith)) in omega (arith, a, b)

sum_apart : (n : ℕ) (f g : ℕ → ℕ) → sum n (λ x. f x + g x) ≤ sum n f + sum n g
sum_apart zero f g = omega arith
sum_apart (suc n) f g = let b : sum n (λ x. f x + g x) ≤ sum n f + sum n g = sum_apart n f g in omega (arith, b)

sum_zero : (n : ℕ) → sum n (λ x. 0) ≤ 0
sum_zero zero = omega arith
sum_zero (suc n) = let b : sum n (λ x. 0) ≤ 0 = sum_zero n in omega (arith, b)

-- one of the tiles at most
one_of : (n k c : ℕ) → (sum n (λ t. cond (k == t) c 0) ≤ c) × (n ≤ k → sum n (λ t. cond (k == t) c 0) ≤ 0)
one_of zero k c = (omega arith, λ l. omega arith)
one_of (suc n) k c = go (one_of n k c) (k == n) refl
  where
    go : (sum n (λ t. cond (k == t) c 0) ≤ c) × (n ≤ k → sum n (λ t. cond (k == t) c 0) ≤ 0) → (b : Bool)
        → (k == n) ≡ b →
        (cond b c 0 + sum n (λ t. cond (k == t) c 0) ≤ c)
        × (suc n ≤ k → cond b c 0 + sum n (λ t. cond (k == t) c 0) ≤ 0)
    go ih true e = let same : k ≡ n = eqb-true _ _ e in
        let z : sum n (λ t. cond (k == t) c 0) ≤ 0 = ih.1 (omega arith) in
        (omega (arith, z), λ l. absurd (omega arith))
    go ih false e = let a = ih.0 in
        (omega (arith, a), λ l. let z : sum n (λ t. cond (k == t) c 0) ≤ 0 = ih.1 (omega arith) in omega (arith, z))

spread : (T n c : ℕ) (tile : ℕ → ℕ) (d : ℕ → Bool)
    → sum T (λ t. sum n (λ x. cond (tile x == t) (cond (d x) c 0) 0)) ≤ c * sum n (λ x. cond (d x) 1 0)
spread T zero c tile d = let z : sum T (λ t. 0) ≤ 0 = sum_zero T in omega (arith, z)
spread T (suc n) c tile d =
    let a : sum T (λ t. cond (tile n == t) (cond (d n) c 0) 0 + sum n (λ x. cond (tile x == t) (cond (d x) c 0) 0))
    ≤ sum T (λ t. cond (tile n == t) (cond (d n) c 0) 0) + sum T
    (λ t. sum n (λ x. cond (tile x == t) (cond (d x) c 0) 0)) =
    sum_apart T _ _ in
    let b : sum T (λ t. cond (tile n == t) (cond (d n) c 0) 0) ≤ cond (d n) c 0 =
    (one_of T (tile n) (cond (d n) c 0)).0 in
    let e : sum T (λ t. sum n (λ x. cond (tile x == t) (cond (d x) c 0) 0)) ≤ c * sum n (λ x. cond (d x) 1 0) =
    spread T n c tile d in
    let m : cond (d n) c 0 + c * sum n (λ x. cond (d x) 1 0) ≤ c * (cond (d n) 1 0 + sum n (λ x. cond (d x) 1 0)) =
    one (d n) (sum n (λ x. cond (d x) 1 0)) in
    omega (arith, a, b, e, m)
  where
    one : (b : Bool) (k : ℕ) → cond b c 0 + c * k ≤ c * (cond b 1 0 + k)
    one true k = grind (arith)
    one false k = grind (arith)

-- the declared tasks of a tile, each by a number
abbrev Each : Front → ℕ → ℕ → ℕ
Each f k t = sum f.course.room (λ x. cond ((f.course.task x).tile == t) (cond (f.course.task x).declared k 0) 0)

module _ (u : ℕ → ℕ) (fits : (t : ℕ) → u t ≤ 24) (f : Front) (placed : Placed f) (fine : Fine u f) where
  -- an entry that has not been issued is declared
  unissued_there : (x : ℕ) → x < f.course.room → unissued f x ≡ true → (f.course.task x).declared ≡ true
  unissued_there x l e = sym (placed x l) ∙ there (f.at x) (and_parts (is_idle (f.at x)) _ e).0
    where
      there : (w : Phase) → is_idle w ≡ true → is_there w ≡ true
      there Absent h = absurd (cc)
      there Idle h = refl
      there Working h = refl
      there (Asking p) h = refl
      there Standing h = refl
      there (Sent p q) h = refl

  wait_in : (t : ℕ) → wait_left (u t) (on_tile f (ready f) t) (count_on f (unissued f) t) ≤ Each f 24 t
  wait_in t =
      let a : wait_left (u t) (on_tile f (ready f) t) (count_on f (unissued f) t) ≤ 24 * count_on f (unissued f) t =
      wait_cap (u t) (on_tile f (ready f) t) (count_on f (unissued f) t) (fits t) (ready_unissued f t) in
      let b : 24 * count_on f (unissued f) t ≤ Each f 24 t = scaled f.course.room (unissued f)
      (λ x. (f.course.task x).tile == t) (λ x. (f.course.task x).declared) unissued_there in
      omega (arith, a, b)
    where
      one : (a b d : Bool) → (a ≡ true → d ≡ true) → 24 * cond (a && b) 1 0 ≤ cond b (cond d 24 0) 0
      one true true true h = omega arith
      one true true false h = absurd (let i = h refl in cc)
      one true false d h = omega arith
      one false true true h = omega arith
      one false true false h = omega arith
      one false false d h = omega arith

      scaled : (n : ℕ) (p q d : ℕ → Bool) → ((x : ℕ) → x < n → p x ≡ true → d x ≡ true)
          → 24 * sum n (λ x. cond (p x && q x) 1 0) ≤ sum n (λ x. cond (q x) (cond (d x) 24 0) 0)
      scaled zero p q d h = omega arith
      scaled (suc n) p q d h =
          let a : 24 * cond (p n && q n) 1 0 ≤ cond (q n) (cond (d n) 24 0) 0 =
          one (p n) (q n) (d n) (h n (omega arith)) in
          let b : 24 * sum n (λ x. cond (p x && q x) 1 0) ≤ sum n (λ x. cond (q x) (cond (d x) 24 0) 0) =
          scaled n p q d (λ x l. h x (omega arith)) in
          omega (arith, a, b)

  tasks_in : (t : ℕ) → on f.course u f.at t ≤ Each f 63 t
  tasks_in t = sum_le f.course.room _ _ (λ x l. one ((f.course.task x).tile == t) _ _
      (subst (λ d. task_left (u t) (f.at x) ≤ cond d 63 0) (placed x l)
      (fine_left u f.come (f.course.task x) (u t) (f.at x) (fits t) (fine x l))))
    where
      one : (b : Bool) (x y : ℕ) → x ≤ y → cond b x 0 ≤ cond b y 0
      one true x y h = h
      one false x y h = omega arith

  tile_in : (t : ℕ) → tile_left u f t ≤ Each f 87 t
  tile_in t =
      let a = wait_in t in let b = tasks_in t in
      let c : Each f 24 t + Each f 63 t ≤ Each f 87 t =
      sum_add f.course.room _ _ _ (λ x l. both ((f.course.task x).tile == t) (f.course.task x).declared) in
      omega (arith, a, b, c)
    where
      both : (b d : Bool) → cond b (cond d 24 0) 0 + cond b (cond d 63 0) 0 ≤ cond b (cond d 87 0) 0
      both true true = omega arith
      both true false = omega arith
      both false true = omega arith
      both false false = omega arith

  -- the work of a front is at most what its tasks may have
  pub work_most : work u f ≤ most (tasks f.course)
  work_most =
      let a : sum 16 (tile_left u f) ≤ sum 16 (Each f 87) = sum_le 16 _ _ (λ t l. tile_in t) in
      let b : sum 16 (Each f 87) ≤ 87 * tasks f.course =
      spread 16 f.course.room 87 (λ x. (f.course.task x).tile) (λ x. (f.course.task x).declared) in
      omega (arith, a, b)
