-- Part (5), tile by tile: behind the first k tiles the lane's tasks of these tiles have had their turn.
use Rattle.std.proofs.Common.{◌≡◌, ℕ, zero, suc, ◌-◌, ◌<◌, ◌≤◌, ◌==◌, ◌&&◌, ◌⊎◌, inl, inr, Bool, true, false}
use Rattle.std.proofs.Common.{cond, not, nat_lt, List, ◌∷◌, refl, sym, ap, ap₂, ◌∙◌, subst}
use Rattle.std.proofs.Common.{arith}
use Rattle.std.proofs.Math.Path.{fun_ext}
use Rattle.std.proofs.lemmas.Bool.{cond-true, cond-false, and_parts, and_left, and_right, cases_eq}
use Rattle.std.proofs.lemmas.Bool.{cases_lt, lt-ltb, le-ltb, eqb-true, eq-eqb, ne_eqb}
use Rattle.trips_isa.specs.declared.block.Block.{Block}
use Rattle.trips_isa.specs.declared.run.Stepped.TheVariants as stepped
use Rattle.trips_isa.specs.Rule.{Answer}
use Rattle.trips_isa.specs.Blocks.{Responses, at_place}
use Rattle.trips_isa.specs.inside.Blocks.{Solves}
use Rattle.commit_flush_spec.specs.Frames.{Frame, at}
use Rattle.commit_flush_spec.specs.Older.{committed}
use Rattle.commit_flush_spec.specs.inside.Invariant.{Below, AllGood}
use Rattle.commit_flush_spec.specs.inside.Laws.{WindowOk}
use Rattle.grid_cycle_spec.specs.Grid.{Grid}
use Rattle.grid_cycle_spec.specs.Units.{unit_on, issues, unit_turn}
use Rattle.grid_bound.specs.inside.Course.{Course, Task}
use Rattle.grid_bound.specs.inside.Lane.{any, Phase, Working, Front, ready}
use Rattle.grid_bound.specs.inside.Sending.{found, tile_of as lane_tile}
use Rattle.grid_bound.specs.inside.Turning.{less_one, finished, finish_front, busy, issued, units_after}
use Rattle.grid_bound.specs.inside.Blocks.{course_of}
use Rattle.grid_bound.specs.inside.Seen.{phase_of, has_come, front_of}
use Rattle.grid_bound.specs.inside.UnitRule.{UnitRule}
use Rattle.grid_cycle_spec.proofs.KeptByCycles.{unit_keeps}
use Rattle.grid_bound.proofs.Steady.{Onward, On, steady}
use Rattle.grid_bound.proofs.OldestEnds.{oldest_ok}
use Rattle.grid_bound.proofs.Fronts.{same_front}
use Rattle.grid_bound.proofs.TileResults.{AfterUnit, after_unit, units_on}
use Rattle.grid_bound.proofs.OldestIssues.{AfterIssue, picked, after_issue}
use Rattle.grid_bound.proofs.Waiting.{address_came}

-- what is found is of a number that passes
pub found_some : (n : ℕ) (p : ℕ → Bool) (f : ℕ → ℕ) → 1 ≤ found n p f → (x : ℕ) × (p x ≡ true) × (found n p f ≡ f x)
found_some zero p f l = absurd (omega (arith, l))
found_some (suc n) p f l = go (p n) refl l (found_some n p f)
  where
    go : (b : Bool) → p n ≡ b → 1 ≤ cond b (f n) (found n p f)
        → (1 ≤ found n p f → (x : ℕ) × (p x ≡ true) × (found n p f ≡ f x))
        → (x : ℕ) × (p x ≡ true) × (cond b (f n) (found n p f) ≡ f x)
    go true z l ih = (n, z, refl)
    go false z l ih = ih l

any_same : (n : ℕ) (p q : ℕ → Bool) → ((x : ℕ) → p x ≡ q x) → any n p ≡ any n q
any_same n p q h = ap (any n) (fun_ext h)

free_is : (n : ℕ) → (n == 0) ≡ not (nat_lt 0 n)
free_is zero = refl
free_is (suc n) = ne_eqb (suc n) 0 (λ z. absurd (omega (arith, z))) ∙ sym (ap not (lt-ltb 0 (suc n) (omega arith)))

module _ {W : Type 0} (blocks : List Block) (good : AllGood blocks) (budget : ℕ) (a : Responses) (t : ℕ → Answer)
    (f : Frame) (g : Grid W) (solves : Solves f.code a t)
    (below : (q : ℕ) → Below (at f.spots q) (at_place f.code t q)) where
  abbrev c : Course
  c = course_of f.code t

  abbrev F : Front
  F = front_of c g f

  -- the front behind all results, and behind all issues
  abbrev G : Front
  G = finish_front (less_one g.units) F

  abbrev last : ℕ → Phase
  last x = cond (issued (less_one g.units) G x) Working (G.at x)

  -- the front behind the first k tiles
  abbrev pub unit_front : ℕ → Front
  unit_front k = record F { at = λ x. cond (nat_lt (lane_tile F x) k) (last x) (F.at x) }

  abbrev own : ℕ → ℕ
  own = units_after (less_one g.units) G

  -- how the oldest frame stands behind the first k tiles
  pub record AtTile (k : ℕ) (h : Grid W) : Type 0 where
    pub frame : Frame
    pub younger : List Frame
    pub frames : h.window.frames ≡ frame ∷ younger
    pub number : frame.number ≡ f.number
    pub code : frame.code ≡ f.code
    pub spots : frame.spots ≡ f.spots
    pub stores : frame.stores ≡ f.stores
    pub runs : frame.sealed ≡ false
    pub front : front_of c h frame ≡ unit_front k
    pub later : (n : ℕ) → k ≤ n → h.units n ≡ g.units n
    pub turned : (n : ℕ) → n < k → 1 ≤ own n → h.units n ≡ own n

  module _ (k : ℕ) (h : Grid W) (s : AtTile k h) (ok : WindowOk blocks budget h.window)
      (went : h.window.over ≡ stepped.Went) (rule : UnitRule h s.frame) where
    abbrev e : Frame
    e = s.frame

    abbrev c' : Course
    c' = course_of e.code t

    same_course : c' ≡ c
    same_course = ap (λ b. course_of b t) s.code

    abbrev F' : Front
    F' = front_of c' h e

    abbrev M : Grid W
    M = unit_on k (h.units k) h

    abbrev FM : Front
    FM = front_of c' M e

    below' : (q : ℕ) → Below (at e.spots q) (at_place e.code t q)
    below' q = subst (λ b. Below (at e.spots q) (at_place b t q)) (sym s.code)
        (subst (λ l. Below (at l q) (at_place f.code t q)) (sym s.spots) (below q))

    solves' : Solves e.code a t
    solves' = subst (λ b. Solves b a t) (sym s.code) solves

    onward : Onward blocks budget h.window M.window
    onward = unit_keeps blocks budget (On blocks budget) (steady blocks budget good) (λ n. tt) tt tt k (h.units k) h

    u : AfterUnit blocks good budget h e s.younger s.frames ok rule t
        (address_came blocks (committed h.window.state) e (oldest_ok blocks budget h.window e s.younger ok s.frames)
        rule.numbered t below') k M
    u = after_unit blocks good budget h e s.younger s.frames ok rule t
        (address_came blocks (committed h.window.state) e (oldest_ok blocks budget h.window e s.younger ok s.frames)
        rule.numbered t below') k (h.units k) refl

    v : AfterIssue blocks good budget M e u.behind u.frames (onward.ok ok) (onward.over ∙ went) s.runs rule.unresolved
        rule.numbered a t solves' below' k (issues blocks budget k M)
    v = after_issue blocks good budget M e u.behind u.frames (onward.ok ok)
        (onward.over ∙ went) s.runs rule.unresolved
        rule.numbered a t solves' below' k

    abbrev picks : ℕ → Bool
    picks = picked blocks good budget M e u.behind u.frames (onward.ok ok) (onward.over ∙ went) s.runs rule.unresolved
        rule.numbered a t solves' below' k

    abbrev H : Grid W
    H = issues blocks budget k M

    -- the tile's unit
    units_k : M.units k ≡ less_one g.units k
    units_k = units_on k (h.units k) h refl k
        ∙ cond-true (k == k) (h.units k - 1) (h.units k) (eq-eqb k k refl)
        ∙ ap (λ n. n - 1) (s.later k (omega arith))

    before : (x : ℕ) → F'.at x ≡ cond (nat_lt (lane_tile F x) k) (last x) (F.at x)
    before x = ap (λ (z : Front). z.at x) s.front

    task_same : (x : ℕ) → c'.task x ≡ c.task x
    task_same x = ap (λ (z : Course). z.task x) same_course

    tile_same : (x : ℕ) → (c'.task x).tile ≡ lane_tile F x
    tile_same x = ap (λ (z : Task). z.tile) (task_same x)

    -- on this tile the unit's result is the lane's
    given_here : (x : ℕ) → lane_tile F x ≡ k → FM.at x ≡ G.at x
    given_here x z =
        u.phases x
        ∙ cond-true ((c'.task x).tile == k) _ _ (eq-eqb ((c'.task x).tile) k (tile_same x ∙ z))
        ∙ ap₂ (λ n p. finished n p (h.units k - 1) (c'.task x)) (ap (λ (z : Front). z.generation) s.front)
        (before x ∙ cond-false (nat_lt (lane_tile F x) k) _ _ (le-ltb (lane_tile F x) k (omega (arith, z))))
        ∙ ap₂ (λ n w. finished F.generation (F.at x) n w)
        (ap (λ n. n - 1) (s.later k (omega arith) ∙ ap g.units (sym z))) (task_same x)

    given_else : (x : ℕ) → (lane_tile F x ≡ k → ⊥) → FM.at x ≡ F'.at x
    given_else x n = u.phases x ∙ cond-false ((c'.task x).tile == k) _ _
        (ne_eqb ((c'.task x).tile) k (λ z. n (sym (tile_same x) ∙ z)))

    come_same : has_come e ≡ F.come
    come_same = ap (λ (z : Front). z.come) s.front

    -- and what is ready there is ready in the lane
    ready_same : (x : ℕ) → (ready FM x && (c'.task x).tile == k) ≡ (ready G x && lane_tile F x == k)
    ready_same x = ap (λ n. ready FM x && n == k) (tile_same x) ∙ go (lane_tile F x == k) refl
      where
        go : (b : Bool) → (lane_tile F x == k) ≡ b → (ready FM x && b) ≡ (ready G x && b)
        go false z = and_right (ready FM x) false refl ∙ sym (and_right (ready G x) false refl)
        go true z = ap (λ b. b && true)
            (ap (λ p. ready (record FM { at = λ y. p }) x) (given_here x (eqb-true (lane_tile F x) k z))
            ∙ ap (λ w. ready (record FM { at = λ y. G.at x; course = record c' { task = λ y. w } }) x) (task_same x)
            ∙ ap (λ (q : ℕ → Bool). ready (record G { at = λ y. G.at x; come = q }) x) come_same)

    -- the tile picks what the lane issues there
    picks_same : (x : ℕ) → lane_tile F x ≡ k
        → (M.units k == 0 && picks x) ≡ issued (less_one g.units) G x
    picks_same x z =
        ap₂ (λ n p. (n == 0) && p) units_k
        (ap₂ (λ b d. b && not d) (ready_same x)
        (any_same x _ (λ y. ready G y && lane_tile F y == k) ready_same))
        ∙ shuffle (ready G x) (lane_tile F x == k) (any x (λ y. ready G y && lane_tile F y == k))
        (less_one g.units k) (eq-eqb (lane_tile F x) k z)
        ∙ ap (λ n. ready G x
        && (not (nat_lt 0 (less_one g.units n)) && not (any x (λ y. ready G y && lane_tile F y == n))))
        (sym z)
      where
        shuffle : (r q d : Bool) (n : ℕ) → q ≡ true
            → ((n == 0) && ((r && q) && not d)) ≡ (r && (not (nat_lt 0 n) && not d))
        shuffle r q d n e =
            ap₂ (λ b q. b && ((r && q) && not d)) (free_is n) e ∙ by r (not (nat_lt 0 n)) (not d)
          where
            by : (r b d : Bool) → (b && ((r && true) && d)) ≡ (r && (b && d))
            by true true d = refl
            by true false d = refl
            by false true d = refl
            by false false d = refl

    picks_none : (x : ℕ) → (lane_tile F x ≡ k → ⊥) → (M.units k == 0 && picks x) ≡ false
    picks_none x n = and_right (M.units k == 0) (picks x) (and_left _ _ (and_right (ready FM x) _
        (ne_eqb ((c'.task x).tile) k (λ z. n (sym (tile_same x) ∙ z)))))

    phases : (x : ℕ) → phase_of H v.frame x ≡ (unit_front (suc k)).at x
    phases x = v.phases x ∙ by (cases_lt (lane_tile F x) k) (cases_eq (lane_tile F x) k)
      where
        by : (lane_tile F x < k) ⊎ (k ≤ lane_tile F x) → (lane_tile F x ≡ k) ⊎ (lane_tile F x ≡ k → ⊥)
            → cond (M.units k == 0 && picks x) Working (FM.at x) ≡ (unit_front (suc k)).at x
        by (inl l) (inl z) = absurd (omega (arith, l, z))
        by (inr l) (inl z) =
            ap₂ (λ b p. cond b Working p) (picks_same x z) (given_here x z)
            ∙ sym (cond-true (nat_lt (lane_tile F x) (suc k)) _ _ (lt-ltb (lane_tile F x) (suc k) (omega (arith, z))))
        by (inl l) (inr n) =
            cond-false _ _ _ (picks_none x n) ∙ given_else x n ∙ before x
            ∙ cond-true (nat_lt (lane_tile F x) k) _ _ (lt-ltb (lane_tile F x) k l)
            ∙ sym (cond-true (nat_lt (lane_tile F x) (suc k)) _ _ (lt-ltb (lane_tile F x) (suc k) (omega (arith, l))))
        by (inr l) (inr n) =
            cond-false _ _ _ (picks_none x n) ∙ given_else x n ∙ before x
            ∙ cond-false (nat_lt (lane_tile F x) k) _ _ (le-ltb (lane_tile F x) k l)
            ∙ sym (cond-false (nat_lt (lane_tile F x) (suc k)) _ _
            (le-ltb (lane_tile F x) (suc k) (omega (arith, l, n))))

    other_units : (n : ℕ) → (n == k) ≡ false → H.units n ≡ h.units n
    other_units n z = v.other_units n z ∙ units_on k (h.units k) h refl n ∙ cond-false (n == k) _ _ z

    -- the tile's unit is as busy as the lane has it
    own_unit : 1 ≤ own k → H.units k ≡ own k
    own_unit l = by (busy (less_one g.units) k) refl l
      where
        by : (b : Bool) → busy (less_one g.units) k ≡ b
            → 1 ≤ cond b (less_one g.units k)
            (found c.room (λ x. issued (less_one g.units) G x && lane_tile F x == k) (λ x. (c.task x).latency))
            → H.units k ≡ cond b (less_one g.units k)
            (found c.room (λ x. issued (less_one g.units) G x && lane_tile F x == k) (λ x. (c.task x).latency))
        by true z l = v.busy (let w = units_k in omega (arith, w, l)) ∙ units_k
        by false z l =
            let q = found_some c.room (λ x. issued (less_one g.units) G x && lane_tile F x == k)
            (λ x. (c.task x).latency) l in
            let p = and_parts (issued (less_one g.units) G q.0) (lane_tile F q.0 == k) q.1 in
            let w = picks_same q.0 (eqb-true (lane_tile F q.0) k p.1) ∙ p.0 in
            let x = and_parts (M.units k == 0) (picks q.0) w in
            v.own q.0 (eqb-true (M.units k) 0 x.0) x.1 ∙ ap (λ (z : Task). z.latency) (task_same q.0) ∙ sym q.2

    -- where the oldest frame stands right behind the first k tiles, it does behind one more
    pub unit_turns : AtTile (suc k) (unit_turn blocks budget k h)
    unit_turns = record {
      frame = v.frame;
      younger = v.behind;
      frames = v.frames;
      number = v.number ∙ s.number;
      code = v.code ∙ s.code;
      spots = v.spots ∙ s.spots;
      stores = v.stores ∙ s.stores;
      runs = v.goes;
      front = same_front (front_of c H v.frame) (unit_front (suc k)) refl
          (v.generation ∙ u.generation ∙ ap (λ (z : Front). z.generation) s.front) (fun_ext phases)
          (v.come ∙ come_same) (v.careful ∙ u.careful ∙ ap (λ (z : Front). z.careful) s.front);
      later = λ n l. other_units n (ne_eqb n k (λ z. absurd (omega (arith, l, z)))) ∙ s.later n (omega (arith, l));
      turned = λ n l one. turned' n one l (cases_eq n k);
    }
      where
        turned' : (n : ℕ) → 1 ≤ own n → n < suc k → (n ≡ k) ⊎ (n ≡ k → ⊥) → H.units n ≡ own n
        turned' n one l (inl z) = subst (λ n. 1 ≤ own n → H.units n ≡ own n) (sym z) own_unit one
        turned' n one l (inr x) = other_units n (ne_eqb n k x) ∙ s.turned n (omega (arith, l, x)) one
