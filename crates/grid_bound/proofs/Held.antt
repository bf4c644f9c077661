-- Where another grid may have the fetch unit, what is left falls too, and is within the price.
use Rattle.std.proofs.Common.{◌≡◌, ℕ, zero, suc, ◌+◌, ◌*◌, ◌<◌, ◌≤◌, ◌⊎◌, inl, inr, Bool, true, false, cond}
use Rattle.std.proofs.Common.{Option, Some, None, refl, sym, ap, ◌∙◌, subst, arith}
use Rattle.std.proofs.lemmas.Bool.{cond-false, both_ways}
use Rattle.grid_cycle_spec.specs.Costs.{fetch_latency}
use Rattle.grid_bound.specs.inside.Course.{Course, tasks}
use Rattle.grid_bound.specs.inside.Lane.{Stage, Running, Fetching, Lane, is_complete}
use Rattle.grid_bound.specs.inside.Sending.{fetching, reading}
use Rattle.grid_bound.specs.inside.Answering.{answer_one, RunsOn, TileAnswers, TilesAnswer}
use Rattle.grid_bound.specs.inside.Turning.{turning}
use Rattle.grid_bound.specs.inside.Moving.{moving}
use Rattle.grid_bound.specs.inside.Serving.{Serves, Served}
use Rattle.grid_bound.specs.inside.Left.{reserve, stage_left, left, price}
use Rattle.grid_bound.specs.inside.Laws.{StageRule, LaneRule, Falls}
use Rattle.grid_bound.proofs.Served.{left_some, left_most, served_falls, reserve_most}
use Rattle.grid_bound.specs.inside.Held.{Waits, ServedHeld, held, left_held, FallsHeld}

-- what is left of a stage
abbrev left_at : ℕ → (ℕ → ℕ) → Stage → ℕ
left_at n u s = cond (is_complete s) 1 (stage_left n u s)

-- a flush -----------------------------------------------------------------------------------------

-- a stage from which data tiles may come to a fetch that has not begun, which makes a careful frame or not
abbrev Flushes : Bool → Stage → Type 0
Flushes c (Running f) = (f.careful ≡ false) × (true ≡ c)
Flushes c (Fetching o b) = (o ≡ None) × (b ≡ c)

tile_back : (c : Bool) (d : ℕ) (s t : Stage) → TileAnswers d s t → Flushes c t → Flushes c s
tile_back c d (Fetching o b) t e k = subst (Flushes c) e k
tile_back c d (Running f) t (inl e) k = subst (Flushes c) e.1 k
tile_back c d (Running f) t (inr a) k = by a.comes_to
  where
    by : RunsOn (answer_one a.request f) t ⊎ ((f.careful ≡ false) × (t ≡ Fetching None true)) → Flushes c (Running f)
    by (inl r) = let z = subst (Flushes c) r.is_stage k in (sym (r.retold).careful ∙ z.0, z.1)
    by (inr e) = (e.0, (subst (Flushes c) e.1 k).1)

tiles_back : (c : Bool) (d : ℕ) (s t : Stage) → TilesAnswer d s t → Flushes c t → Flushes c s
tiles_back c zero s t e k = subst (Flushes c) e k
tiles_back c (suc d) s t a k = tiles_back c d s a.middle a.before (tile_back c d a.middle t a.after k)

-- units and the mesh leave what is fetched
turns_back : (u : ℕ → ℕ) (hold : ℕ → ℕ) (c : Bool) (s : Stage) → moving hold (turning u s) ≡ Fetching None c
    → Flushes c s
turns_back u hold c (Running f) e = absurd (cc)
turns_back u hold c (Fetching o b) e = (ap fetch_of e, ap standing e)
  where
    fetch_of : Stage → Option ℕ
    fetch_of (Running f) = None
    fetch_of (Fetching o b) = o

    standing : Stage → Bool
    standing (Running f) = false
    standing (Fetching o b) = b

-- before such a flush much is left
much_left : (n : ℕ) (u : ℕ → ℕ) (g : ℕ) (v : Course) (c : Bool) (s : Stage) → StageRule n u s → is_complete s ≡ false
    → Flushes c (reading (fetching g v s)) → (257 + 128 * n ≤ left_at n u s) × (true ≡ c)
much_left n u g v c (Running f) r open' k =
    let e : left_at n u (Running f) ≡ stage_left n u (Running f) = cond-false (is_complete (Running f)) _ _ open' in
    let a : reserve f.careful (tasks f.course) ≡ 256 + 128 * tasks f.course =
    ap (λ b. reserve b (tasks f.course)) k.0 in
    let z : tasks f.course ≡ n = r.size in
    (omega (arith, e, a, z), k.1)
much_left n u g v c (Fetching None b) r open' k = absurd (let z = k.0 in cc)
much_left n u g v c (Fetching (Some zero) b) r open' k =
    let a : reserve b n ≡ 256 + 128 * n = ap (λ b. reserve b n) k.0 in (omega (arith, a), k.1)
much_left n u g v c (Fetching (Some (suc j)) b) r open' k = absurd (let z = k.0 in cc)

module _ (sizes : ℕ → ℕ) (l m : Lane) (rule : LaneRule sizes l) (j : ℕ) (small : j < fetch_latency) where
  flushed : (v : Serves sizes l m) → is_complete l.stage ≡ false → (c : Bool) → m.stage ≡ Fetching None c
      → left sizes m + 7 < left sizes l
  flushed v open' c e =
      let r : StageRule (sizes l.done) l.units l.stage = open_rule rule.stage in
      let k : Flushes c v.answered = turns_back l.units v.hold c v.answered (sym v.stage ∙ e) in
      let q = much_left (sizes l.done) l.units v.generation v.filled c l.stage r open'
      (tiles_back c 4 (reading (fetching v.generation v.filled l.stage)) v.answered v.answers k) in
      let x : left sizes m ≡ left_at (sizes m.done) m.units (Fetching None true) =
      ap (λ s. left_at (sizes m.done) m.units s) (e ∙ ap (Fetching None) (sym q.1)) in
      let y : sizes m.done ≡ sizes l.done = ap sizes v.done in
      let a = q.0 in
      omega (arith, a, x, y)
    where
      open_rule : (is_complete l.stage ≡ true) ⊎ StageRule (sizes l.done) l.units l.stage
          → StageRule (sizes l.done) l.units l.stage
      open_rule (inl z) = absurd (both_ways _ open' z)
      open_rule (inr z) = z

  -- a cycle that serves the block
  served_held : (k : ℕ) → Served sizes l m → FallsHeld sizes k j l m
  served_held k s = by s (served_falls sizes l m rule s)
    where
      lower : (v : Serves sizes l m) → is_complete l.stage ≡ false → left sizes m < left sizes l → (s : Stage)
          → m.stage ≡ s → left sizes m + held j s < left sizes l + held k l.stage
      lower v open' less (Running f) e = omega (arith, less)
      lower v open' less (Fetching None c) e = let a = flushed v open' c e in omega (arith, a, small)
      lower v open' less (Fetching (Some n) c) e = omega (arith, less)

      by : Served sizes l m → Falls sizes l m → FallsHeld sizes k j l m
      by s (inl e) = inl e
      by (inl z) (inr f) = inl z.1
      by (inr z) (inr f) = inr (f.0, f.1, lower z.1 z.0 f.2 m.stage refl)

  -- a cycle in which it waits for the fetch unit
  waits_held : (k : ℕ) → Waits k j l m → FallsHeld sizes k j l m
  waits_held k w = inr (
    w.done,
    record { units = w.units; stage = inr (subst (StageRule (sizes m.done) m.units) (sym w.after) fine) },
    (let a : left sizes m ≡ left_at (sizes m.done) m.units (Fetching None w.careful) =
        ap (left_at (sizes m.done) m.units) w.after in
        let b : left sizes l ≡ left_at (sizes l.done) l.units (Fetching None w.careful) =
        ap (left_at (sizes l.done) l.units) w.before in
        let c : held j m.stage ≡ j = ap (held j) w.after in
        let d : held k l.stage ≡ k = ap (held k) w.before in
        let e : left_at (sizes m.done) m.units (Fetching None w.careful)
        ≡ left_at (sizes l.done) l.units (Fetching None w.careful) =
        ap (λ n. left_at n m.units (Fetching None w.careful)) (ap sizes w.done) in
        let less : j < k = w.fewer in
        omega (arith, a, b, c, d, e, less)),
  )
    where
      fine : StageRule (sizes m.done) m.units (Fetching None w.careful)
      fine = tt

  -- a cycle commits the block, or keeps the rule and lowers what is left, the wait for the fetch unit with it
  pub falls_held : (k : ℕ) → ServedHeld sizes k j l m → FallsHeld sizes k j l m
  falls_held k (inl s) = served_held k s
  falls_held k (inr w) = waits_held k w

-- within the price
pub held_most : (sizes : ℕ → ℕ) (l : Lane) (k : ℕ) → k < fetch_latency → LaneRule sizes l
    → left_held sizes k l ≤ price (sizes l.done)
held_most sizes l k small r = by l.stage refl
  where
    a : left sizes l ≤ price (sizes l.done)
    a = left_most sizes l r

    by : (s : Stage) → l.stage ≡ s → left sizes l + held k s ≤ price (sizes l.done)
    by (Running f) e = omega (arith, a)
    by (Fetching (Some n) c) e = omega (arith, a)
    by (Fetching None c) e =
        let b : left sizes l ≡ left_at (sizes l.done) l.units (Fetching None c) =
        ap (left_at (sizes l.done) l.units) e in
        let d : reserve c (sizes l.done) ≤ 256 + 128 * sizes l.done = reserve_most c (sizes l.done) in
        omega (arith, b, d, small)

-- something is always left
pub held_some : (sizes : ℕ → ℕ) (l : Lane) (k : ℕ) → 1 ≤ left_held sizes k l
held_some sizes l k = let a : 1 ≤ left sizes l = left_some sizes l in omega (arith, a)
