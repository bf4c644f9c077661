-- The data tiles, one after another.
use Rattle.std.proofs.Common.{◌≡◌, ℕ, zero, suc, ◌+◌, ◌*◌, ◌<◌, ◌≤◌, Bool, true, false, cond, ◌==◌, ◌&&◌}
use Rattle.std.proofs.Common.{not, ◌⊎◌, inl, inr, Option, Some, None, refl, sym, ap, ap₂, ◌∙◌, subst, arith}
use Rattle.std.proofs.Math.Path.{fun_ext}
use Rattle.std.proofs.lemmas.Bool.{and_parts, and_from, or_left, or_right, cond_both, cond-true, cond-false, eqb-true}
use Rattle.std.proofs.lemmas.Bool.{eq-eqb, cases_Bool, both_ways, cases_eq}
use Rattle.operand_net.specs.declared.parcel.Stand.{Stand}
use Rattle.operand_net.specs.declared.parcel.Stand.TheVariants.{Nowhere, Away, Held}
use Rattle.grid_bound.specs.inside.Course.{Target, Task, sum, tasks, is_reading, GoodTask}
use Rattle.grid_bound.specs.inside.Lane.{any, Phase, Absent, Idle, Working, Asking, Standing, Sent, is_idle, is_there}
use Rattle.grid_bound.specs.inside.Lane.{is_standing, Front, Stage, Running, Fetching, all_come, unissued, ready}
use Rattle.grid_bound.specs.inside.Lane.{answerable}
use Rattle.grid_bound.specs.inside.Sending.{station_of}
use Rattle.grid_bound.specs.inside.Answering.{hits, settled, resolves, answer_one, at_tile, has_at}
use Rattle.grid_bound.specs.inside.Answering.{spot_of, Retold, RunsOn, Answered, TileAnswers, TilesAnswer}
use Rattle.grid_bound.specs.inside.Left.{task_left, wait_left, work, reserve, stage_left}
use Rattle.grid_bound.specs.inside.Laws.{Has, Landed, FineAt, Fine, Placed, FrontRule, StageRule}
use Rattle.grid_bound.proofs.Counting.{any_from}
use Rattle.grid_bound.proofs.Mesh.{landed_more}
use Rattle.grid_bound.proofs.Work.{calm_drop}
use Rattle.grid_bound.proofs.PartsLowerWork.{GoodTasks, standing_is, idle_is, there_left, all_come_more}
use Rattle.grid_bound.proofs.RuleKept.{sent_fine}

-- one answer --------------------------------------------------------------------------------------

settled_idle : (g : ℕ) (b : Bool) (n : Task) → is_idle (settled g b n) ≡ false
settled_idle g true n = refl
settled_idle g false n = refl

settled_there : (g : ℕ) (b : Bool) (n : Task) → is_there (settled g b n) ≡ true
settled_there g true n = refl
settled_there g false n = refl

settled_left : (g : ℕ) (b : Bool) (n : Task) (c : ℕ) → GoodTask n → task_left c (settled g b n) ≤ 24
settled_left g true n c k = omega arith
settled_left g false n c k = there_left g n c k

hit_has : (come : ℕ → Bool) (t : Option Target) → ((s : ℕ) → hits t s ≡ true → come s ≡ true) → Has come t
hit_has come None h = tt
hit_has come (Some t) h = h t.spot (eq-eqb _ _ refl)

fine_more : (u : ℕ → ℕ) (come come2 : ℕ → Bool) (n : Task) (w : Phase) → ((s : ℕ) → come s ≡ true → come2 s ≡ true)
    → FineAt u come n w → FineAt u come2 n w
fine_more u come come2 n Absent m h = tt
fine_more u come come2 n Idle m h = tt
fine_more u come come2 n Working m h = h
fine_more u come come2 n (Asking p) m h = h
fine_more u come come2 n Standing m h = tt
fine_more u come come2 n (Sent p q) m h =
    (landed_more come come2 p n.first m h.0, landed_more come come2 q n.second m h.1)

settled_fine : (u : ℕ → ℕ) (come2 : ℕ → Bool) (g : ℕ) (n : Task) (b : Bool) → GoodTask n
    → ((s : ℕ) → resolves b n s ≡ true → come2 s ≡ true) → FineAt u come2 n (settled g b n)
settled_fine u come2 g n true k h = (
  hit_has come2 n.first (λ s e. h s (or_left (hits n.first s) _ e)),
  hit_has come2 n.second (λ s e. h s (or_right (hits n.first s) _ e)),
)
settled_fine u come2 g n false k h = sent_fine come2 g n.served_at n k.served_at k

module _ (f : Front) (x : ℕ) (stands : is_standing (f.at x) ≡ true) where
  abbrev after : Front
  after = answer_one x f

  abbrev new : Phase
  new = settled f.generation (f.course.task x).stores (f.course.task x)

  come_more : (s : ℕ) → f.come s ≡ true → after.come s ≡ true
  come_more s e = or_left (f.come s) _ e

  -- another task stays as it is
  pub same : (y : ℕ) → (y ≡ x → ⊥) → after.at y ≡ f.at y
  same y n = at (cases_Bool (y == x))
    where
      at : ((y == x) ≡ true) ⊎ ((y == x) ≡ false) → after.at y ≡ f.at y
      at (inl e) = absurd (n (eqb-true _ _ e))
      at (inr e) = cond-false (y == x) _ _ e

  pub own : after.at x ≡ new
  own = cond-true (x == x) _ _ (eq-eqb x x refl)

  was : (y : ℕ) → (y == x) ≡ true → f.at y ≡ Standing
  was y e = standing_is (f.at y) (subst (λ z. is_standing (f.at z) ≡ true) (sym (eqb-true _ _ e)) stands)

  new_at : (y : ℕ) → (y == x) ≡ true → after.at y ≡ settled f.generation (f.course.task y).stores (f.course.task y)
  new_at y e = cond-true (y == x) _ _ e
      ∙ ap (λ z. settled f.generation (f.course.task z).stores (f.course.task z)) (sym (eqb-true _ _ e))

  pub answered_placed : Placed f → Placed after
  answered_placed placed y l = at (cases_Bool (y == x))
    where
      at : ((y == x) ≡ true) ⊎ ((y == x) ≡ false) → is_there (after.at y) ≡ (f.course.task y).declared
      at (inl e) = ap is_there (new_at y e) ∙ settled_there f.generation (f.course.task y).stores (f.course.task y)
          ∙ sym (ap is_there (was y e)) ∙ placed y l
      at (inr e) = ap is_there (cond-false (y == x) _ _ e) ∙ placed y l

  module _ (good : GoodTasks f) where
    pub answered_fine : (u : ℕ → ℕ) → Fine u f → Fine u after
    answered_fine u fine y l = at (cases_Bool (y == x))
      where
        at : ((y == x) ≡ true) ⊎ ((y == x) ≡ false) → FineAt u after.come (f.course.task y) (after.at y)
        at (inl e) = subst (FineAt u after.come (f.course.task y)) (sym (new_at y e))
            (settled_fine u after.come f.generation (f.course.task y) (f.course.task y).stores (good y)
            (λ s h. or_right (f.come s) _
            (subst (λ z. resolves (f.course.task z).stores (f.course.task z) s ≡ true) (eqb-true _ _ e) h)))
        at (inr e) = subst (FineAt u after.come (f.course.task y)) (sym (cond-false (y == x) _ _ e))
            (fine_more u f.come after.come (f.course.task y) (f.at y) come_more (fine y l))

    keeps : (y : ℕ) → y < f.course.room → unissued after y ≡ true → unissued f y ≡ true
    keeps y l = cond_both (y == x) new (f.at y)
        (λ w. (is_idle w && not (is_reading (f.course.task y).kind)) ≡ true → unissued f y ≡ true)
        (λ e h. absurd (both_ways _ (settled_idle f.generation (f.course.task x).stores (f.course.task x))
        (and_parts (is_idle new) _ h).0)) (λ e h. h)

    more : (y : ℕ) → y < f.course.room → ready f y ≡ true → ready after y ≡ true
    more y l h =
        let a : (unissued f y ≡ true) × (((f.course.task y).met && all_come f.come (f.course.task y).needs) ≡ true) =
        and_parts (unissued f y) _ h in
        let b : ((f.course.task y).met ≡ true) × (all_come f.come (f.course.task y).needs ≡ true) =
        and_parts (f.course.task y).met _ a.1 in
        let idle : f.at y ≡ Idle = idle_is _ (and_parts (is_idle (f.at y)) _ a.0).0 in
        and_from (unissued after y) _
        (subst (λ w. (is_idle w && not (is_reading (f.course.task y).kind)) ≡ true)
        (sym (same y (λ e. let k : f.at y ≡ Standing = was y (eq-eqb _ _ e) in
        let z : Idle ≡ Standing = sym idle ∙ k in cc))) a.0)
        (and_from (f.course.task y).met _ b.0
        (all_come_more f.come after.come (f.course.task y).needs come_more b.1))

    falls : (c : ℕ) → task_left c (after.at x) + 1 ≤ task_left c (f.at x)
    falls c =
        let a : task_left c new ≤ 24 =
        settled_left f.generation (f.course.task x).stores (f.course.task x) c (good x) in
        subst (λ w. task_left c w + 1 ≤ task_left c (f.at x)) (sym own)
        (subst (λ w. task_left c new + 1 ≤ task_left c w) (sym (standing_is _ stands)) (omega (arith, a)))

    low : (y c : ℕ) → y < f.course.room → task_left c (after.at y) ≤ task_left c (f.at y)
    low y c l = at (cases_eq y x)
      where
        at : (y ≡ x) ⊎ (y ≡ x → ⊥) → task_left c (after.at y) ≤ task_left c (f.at y)
        at (inl e) = subst (λ z. task_left c (after.at z) ≤ task_left c (f.at z)) (sym e)
            (let a : task_left c (after.at x) + 1 ≤ task_left c (f.at x) = falls c in omega (arith, a))
        at (inr n) = subst (λ w. task_left c w ≤ task_left c (f.at y)) (sym (same y n)) (omega arith)

    pub answered_drop : (u : ℕ → ℕ) → ((t : ℕ) → u t ≤ 24) → x < f.course.room → work u after + 1 ≤ work u f
    answered_drop u fits l = calm_drop u fits f after.at after.come keeps more low x l (good x).tile falls

-- a retold frame ----------------------------------------------------------------------------------

-- the work, and how many tasks there are, by what they depend on
work_by : ℕ → (ℕ → ℕ) → (ready unissued : ℕ → Bool) → (tile : ℕ → ℕ) → (ℕ → Phase) → ℕ
work_by room u ready unissued tile at = 1 + sum 16 (λ t.
    wait_left (u t) (any room (λ x. ready x && tile x == t)) (sum room (λ x. cond (unissued x && tile x == t) 1 0))
    + sum room (λ x. cond (tile x == t) (task_left (u t) (at x)) 0))

tasks_by : ℕ → (ℕ → Bool) → ℕ
tasks_by room declared = sum room (λ x. cond (declared x) 1 0)

module _ (f h : Front) (r : Retold f h) where
  same_unissued : (x : ℕ) → unissued h x ≡ unissued f x
  same_unissued x = ap₂ (λ w k. is_idle w && not (is_reading k)) (r.at x) (r.kind x)

  pub retold_work : (u : ℕ → ℕ) → work u h ≡ work u f
  unfolding work_by
  retold_work u =
      let a : work u h ≡ work_by h.course.room u (ready h) (unissued h) (λ x. (h.course.task x).tile) h.at = refl in
      let z : work_by f.course.room u (ready f) (unissued f) (λ x. (f.course.task x).tile) f.at ≡ work u f = refl in
      a ∙ ap (λ k. work_by k u (ready h) (unissued h) (λ x. (h.course.task x).tile) h.at) r.room
      ∙ ap (λ p. work_by f.course.room u p (unissued h) (λ x. (h.course.task x).tile) h.at) (fun_ext (λ x. r.ready x))
      ∙ ap (λ p. work_by f.course.room u (ready f) p (λ x. (h.course.task x).tile) h.at) (fun_ext same_unissued)
      ∙ ap (λ (p : ℕ → ℕ). work_by f.course.room u (ready f) (unissued f) p h.at) (fun_ext (λ x. r.tile x))
      ∙ ap (λ (p : ℕ → Phase). work_by f.course.room u (ready f) (unissued f) (λ x. (f.course.task x).tile) p)
      (fun_ext (λ x. r.at x)) ∙ z

  pub retold_tasks : tasks h.course ≡ tasks f.course
  unfolding tasks_by
  retold_tasks =
      let a : tasks h.course ≡ tasks_by h.course.room (λ x. (h.course.task x).declared) = refl in
      let z : tasks_by f.course.room (λ x. (f.course.task x).declared) ≡ tasks f.course = refl in
      a ∙ ap (λ k. tasks_by k (λ x. (h.course.task x).declared)) r.room
      ∙ ap (tasks_by f.course.room) (fun_ext (λ x. r.declared x)) ∙ z

  pub retold_placed : Placed f → Placed h
  retold_placed placed x l = ap is_there (r.at x) ∙ placed x (subst (λ k. x < k) r.room l) ∙ sym (r.declared x)

  has_same : (come : ℕ → Bool) (t v : Option Target) → spot_of v ≡ spot_of t → Has come t → Has come v
  has_same come None None e k = tt
  has_same come None (Some v) e k = absurd (cc)
  has_same come (Some t) None e k = tt
  has_same come (Some t) (Some v) e k = let same : t.spot ≡ v.spot = cc in subst (λ s. come s ≡ true) same k

  landed_same : (come : ℕ → Bool) (p : Stand) (t v : Option Target) → spot_of v ≡ spot_of t → Landed come p t
      → Landed come p v
  landed_same come Nowhere t v e k = has_same come t v e k
  landed_same come (Away trip a) t v e k = k
  landed_same come (Held trip c) t v e k = k

  fine_same : (u : ℕ → ℕ) (come : ℕ → Bool) (t v : Task) (w : Phase) → v.tile ≡ t.tile
      → spot_of v.first ≡ spot_of t.first
      → spot_of v.second ≡ spot_of t.second → FineAt u come t w → FineAt u come v w
  fine_same u come t v Absent e i j k = tt
  fine_same u come t v Idle e i j k = tt
  fine_same u come t v Working e i j k = subst (λ z. 1 ≤ u z) (sym e) k
  fine_same u come t v (Asking p) e i j k = k
  fine_same u come t v Standing e i j k = tt
  fine_same u come t v (Sent p q) e i j k =
      (landed_same come p t.first v.first i k.0, landed_same come q t.second v.second j k.1)

  pub retold_fine : (u : ℕ → ℕ) → Fine u f → Fine u h
  retold_fine u fine x l = subst (FineAt u h.come (h.course.task x)) (sym (r.at x))
      (fine_same u h.come (f.course.task x) (h.course.task x) (f.at x) (r.tile x) (r.first x) (r.second x)
      (fine_more u f.come h.come (f.course.task x) (f.at x) (λ s e. r.come s ∙ e)
      (fine x (subst (λ k. x < k) r.room l))))

-- tiles -------------------------------------------------------------------------------------------

-- a request of the frame at station k waits for nothing
abbrev pub Here : ℕ → Stage → Type 0
Here k (Running f) = (x : ℕ) × (x < f.course.room) × (answerable f x ≡ true) × (station_of f x ≡ k)
Here k (Fetching o s) = ⊥

module _ (n : ℕ) (u : ℕ → ℕ) (fits : (t : ℕ) → u t ≤ 24) where
  -- a flush uses up the reserve
  flush_falls : (f : Front) → tasks f.course ≡ n → f.careful ≡ false
      → stage_left n u (Fetching None true) + 1 ≤ stage_left n u (Running f)
  flush_falls f e k =
      let r : reserve f.careful (tasks f.course) ≡ 256 + 128 * n = ap₂ reserve k e in omega (arith, r)

  -- the rule is kept, and either what is left falls or nothing has changed
  abbrev One : Stage → Stage → Type 0
  One s t = StageRule n u t × ((stage_left n u t + 1 ≤ stage_left n u s) ⊎ (t ≡ s))

  answered_one : (d : ℕ) (f : Front) (t : Stage) → FrontRule n u f → Answered d f t
      → StageRule n u t × (stage_left n u t + 1 ≤ stage_left n u (Running f))
  answered_one d f t r a = go a.comes_to
    where
      go : RunsOn (answer_one a.request f) t ⊎ ((f.careful ≡ false) × (t ≡ Fetching None true))
          → StageRule n u t × (stage_left n u t + 1 ≤ stage_left n u (Running f))
      go (inl e) = subst (λ t. StageRule n u t × (stage_left n u t + 1 ≤ stage_left n u (Running f)))
          (sym e.is_stage) (
            record {
              size = retold_tasks (answer_one a.request f) e.front e.retold ∙ r.size;
              good = e.retold.good;
              placed = retold_placed (answer_one a.request f) e.front e.retold
                  (answered_placed f a.request a.stands r.placed);
              fine = retold_fine (answer_one a.request f) e.front e.retold u
                  (answered_fine f a.request a.stands r.good.by.good u r.fine);
            },
            (let k : work u (answer_one a.request f) + 1 ≤ work u f =
                answered_drop f a.request a.stands r.good.by.good u fits a.inside in
                let w : work u e.front ≡ work u (answer_one a.request f) =
                retold_work (answer_one a.request f) e.front e.retold u in
                let v : reserve e.front.careful (tasks e.front.course) ≡ reserve f.careful (tasks f.course) =
                ap₂ reserve e.retold.careful (retold_tasks (answer_one a.request f) e.front e.retold) in
                omega (arith, k, w, v)),
          )
      go (inr e) = subst (λ t. StageRule n u t × (stage_left n u t + 1 ≤ stage_left n u (Running f))) (sym e.1)
          (tt, flush_falls f r.size e.0)

  one_tile : (d : ℕ) (s t : Stage) → StageRule n u s → TileAnswers d s t → One s t
  one_tile d (Fetching o b) t r a = (subst (StageRule n u) (sym a) r, inr a)
  one_tile d (Running f) t r (inl a) = (subst (StageRule n u) (sym a.1) r, inr a.1)
  one_tile d (Running f) t r (inr a) = let k = answered_one d f t r a in (k.0, inl k.1)

  -- a request at this tile is not left standing
  one_falls : (d : ℕ) (s t : Stage) → StageRule n u s → Here d s → TileAnswers d s t
      → stage_left n u t + 1 ≤ stage_left n u s
  one_falls d (Fetching o b) t r h a = absurd h
  one_falls d (Running f) t r (x, l, i, e) (inl a) = absurd (both_ways (has_at d f) a.0
      (any_from f.course.room (at_tile d f) x l (and_from (answerable f x) _ i (eq-eqb _ _ e))))
  one_falls d (Running f) t r h (inr a) = (answered_one d f t r a).1

  -- some tiles: what stands at one of them, or still stands behind them
  abbrev After : ℕ → Stage → Stage → Type 0
  After d s t = StageRule n u t
      × ((stage_left n u t + 1 ≤ stage_left n u s) ⊎ ((t ≡ s) × ((k : ℕ) → k < d → Here k s → ⊥)))

  -- the first data tiles keep the rule of the stage, and lower what is left unless nothing stands at them
  pub some_tiles : (d : ℕ) (s t : Stage) → StageRule n u s → TilesAnswer d s t → After d s t
  some_tiles zero s t r a = (subst (StageRule n u) (sym a) r, inr (a, λ k l. absurd (omega arith)))
  some_tiles (suc d) s t r a = go (some_tiles d s a.middle r a.before)
    where
      go : After d s a.middle → After (suc d) s t
      go (rm, inl l) = let k = one_tile d a.middle t rm a.after in (k.0, inl (lower k.1))
        where
          lower : (stage_left n u t + 1 ≤ stage_left n u a.middle) ⊎ (t ≡ a.middle)
              → stage_left n u t + 1 ≤ stage_left n u s
          lower (inl j) = omega (arith, l, j)
          lower (inr e) = subst (λ z. stage_left n u z + 1 ≤ stage_left n u s) (sym e) l
      go (rm, inr (e, old)) = let k = one_tile d a.middle t rm a.after in (k.0, two k.1)
        where
          here : Here d s → stage_left n u t + 1 ≤ stage_left n u s
          here h = subst (λ z. stage_left n u t + 1 ≤ stage_left n u z) e
              (one_falls d a.middle t rm (subst (Here d) (sym e) h) a.after)

          two : (stage_left n u t + 1 ≤ stage_left n u a.middle) ⊎ (t ≡ a.middle)
              → (stage_left n u t + 1 ≤ stage_left n u s) ⊎ ((t ≡ s) × ((k : ℕ) → k < suc d → Here k s → ⊥))
          two (inl j) = inl (subst (λ z. stage_left n u t + 1 ≤ stage_left n u z) e j)
          two (inr i) = inr (i ∙ e, λ k l h. none k l (cases_eq k d) h)
            where
              none : (k : ℕ) → k < suc d → (k ≡ d) ⊎ (k ≡ d → ⊥) → Here k s → ⊥
              none k l (inl q) h =
                  let z : stage_left n u t + 1 ≤ stage_left n u s = here (subst (λ k. Here k s) q h) in
                  let y : stage_left n u t ≡ stage_left n u s = ap (stage_left n u) (i ∙ e) in
                  absurd (omega (arith, z, y))
              none k l (inr q) h = old k (omega (arith, l, q)) h
