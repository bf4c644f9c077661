-- An entry is ready in the lane exactly where the window would fire it, by any table of what has come.
use Rattle.std.proofs.Common.{◌≡◌, ℕ, ◌+◌, ◌<◌, Bool, true, false, cond, ◌&&◌, not, nat_lt}
use Rattle.std.proofs.Common.{◌⊎◌, inl, inr, List, [], Option, Some, None, is_some, slice_get, slice_index_or, refl}
use Rattle.std.proofs.Common.{sym, ap, ap₂, ◌∙◌, arith}
use Rattle.std.proofs.lemmas.Bool.{and_parts, and_from, cases_Bool, both_ways, cond_both, cond-true, lt-ltb}
use Rattle.trips_isa.specs.declared.block.Token.TheVariants.{Null, Word}
use Rattle.trips_isa.specs.declared.block.Inst.{Inst}
use Rattle.trips_isa.specs.declared.block.Sense.{Sense}
use Rattle.trips_isa.specs.declared.block.Sense.TheVariants.{Always, OnTrue, OnFalse}
use Rattle.trips_isa.specs.declared.form.Role.{Role}
use Rattle.trips_isa.specs.declared.form.Role.TheVariants.{Empty, Reading, Free, Nothing, Copy, One, Both}
use Rattle.trips_isa.specs.declared.form.Form.{Form}
use Rattle.trips_isa.specs.declared.form.Form.TheVariants.{General, Immediate, Load, Store, Branch, Constant}
use Rattle.trips_isa.specs.Forms.{form_of, role_of, takes_left, takes_right}
use Rattle.trips_isa.specs.Operands.{is_guarded}
use Rattle.trips_isa.specs.Rule.{Answer, matched, of_one, of_both, gives, if_matched, rule}
use Rattle.trips_isa.specs.Places.{nodes_of, inst_node}
use Rattle.trips_isa.specs.Tables.{node_gives}
use Rattle.trips_isa.specs.Blocks.{Responses, at_place, computes}
use Rattle.trips_isa.specs.inside.Blocks.{Solves}
use Rattle.block_cases.specs.Orders.{slot_of}
use Rattle.commit_flush_spec.specs.Frames.{Frame, at, slot_node}
use Rattle.commit_flush_spec.specs.Sending.{token_with}
use Rattle.commit_flush_spec.specs.inside.Invariant.{Below}
use Rattle.commit_flush_spec.proofs.Lists.{below_is}
use Rattle.commit_flush_spec.specs.inside.Observers.{is_ready}
use Rattle.commit_flush_spec.proofs.Producers.{node_of_slot}
use Rattle.grid_cycle_spec.specs.Grid.{Grid}
use Rattle.grid_cycle_spec.specs.inside.Arrivals.{is_waiting}
use Rattle.grid_bound.specs.inside.Course.{Kind, Plain, Serving, is_reading, Task}
use Rattle.grid_bound.specs.inside.Course as course
use Rattle.grid_bound.specs.inside.Lane.{Phase, Idle, Working, Asking, Standing, is_idle, all_come, ready}
use Rattle.grid_bound.specs.inside.Blocks.{slot_tasks, kind_of, if_so, needs_of, slot_task, course_of}
use Rattle.grid_bound.specs.inside.Seen.{sent_of, asking, after_unit, slot_phase, has_come, front_of}
use Rattle.grid_bound.proofs.Sizes.{slot_is, slot_tasks_is}
use Rattle.grid_bound.proofs.CourseSpots.{gives_left, gives_right, matched_some, if_parts, some_there}

-- the rule --------------------------------------------------------------------------------------

one_there : (c : ℕ → ℕ) (l : Answer) → is_some (of_one c l) ≡ is_some l
one_there c None = refl
one_there c (Some Null) = refl
one_there c (Some (Word x)) = refl

both_there : (c : ℕ → ℕ → ℕ) (l r : Answer) → is_some (of_both c l r) ≡ (is_some l && is_some r)
both_there c None r = refl
both_there c (Some Null) None = refl
both_there c (Some Null) (Some k) = refl
both_there c (Some (Word x)) None = refl
both_there c (Some (Word x)) (Some Null) = refl
both_there c (Some (Word x)) (Some (Word y)) = refl

-- whether a role gives a token hangs on the operands that it takes alone
gives_same : (e : Role) (c d : ℕ → ℕ → ℕ) (l r k m : Answer) → (takes_left e ≡ true → l ≡ k)
    → (takes_right e ≡ true → r ≡ m)
    → is_some (gives e c l r) ≡ is_some (gives e d k m)
gives_same Empty c d l r k m h i = refl
gives_same Reading c d l r k m h i = refl
gives_same Free c d l r k m h i = refl
gives_same Nothing c d l r k m h i = refl
gives_same Copy c d l r k m h i = ap is_some (h refl)
gives_same One c d l r k m h i = one_there _ l ∙ ap is_some (h refl) ∙ sym (one_there _ k)
gives_same Both c d l r k m h i =
    both_there c l r ∙ ap₂ (λ a b. is_some a && is_some b) (h refl) (i refl) ∙ sym (both_there d k m)

matched_same : (z : Sense) (p q : Answer) → (is_guarded z ≡ true → p ≡ q) → matched z p ≡ matched z q
matched_same Always p q h = refl
matched_same OnTrue p q h = ap (matched OnTrue) (h refl)
matched_same OnFalse p q h = ap (matched OnFalse) (h refl)

if_there : (b : Bool) (t : Answer) → is_some (if_matched b t) ≡ (b && is_some t)
if_there true t = refl
if_there false t = refl

rule_same : (e : Role) (z : Sense) (c d : ℕ → ℕ → ℕ) (l r p k m q : Answer) → (takes_left e ≡ true → l ≡ k)
    → (takes_right e ≡ true → r ≡ m) → (is_guarded z ≡ true → p ≡ q)
    → is_some (rule e z c l r p) ≡ is_some (rule e z d k m q)
rule_same e z c d l r p k m q h i j = if_there (matched z p) (gives e c l r)
    ∙ ap₂ (λ a b. a && b) (matched_same z p q j) (gives_same e c d l r k m h i)
    ∙ sym (if_there (matched z q) (gives e d k m))

-- what is needed ----------------------------------------------------------------------------------

so_true : (come : ℕ → Bool) (b : Bool) (p : ℕ) (qs : List ℕ) → all_come come (if_so b p qs) ≡ true
    → (b ≡ true → come p ≡ true) × (all_come come qs ≡ true)
so_true come true p qs e = let k : (come p ≡ true) × (all_come come qs ≡ true) = and_parts (come p) _ e in
    (λ i. k.0, k.1)
so_true come false p qs e = (λ i. absurd (cc), e)

so_from : (come : ℕ → Bool) (b : Bool) (p : ℕ) (qs : List ℕ) → (b ≡ true → come p ≡ true) → all_come come qs ≡ true
    → all_come come (if_so b p qs) ≡ true
so_from come true p qs h e = and_from (come p) _ (h refl) e
so_from come false p qs h e = e

spot_seen : (f : Frame) (q : ℕ) → q < 416 → has_come f q ≡ is_some (at f.spots q)
spot_seen f q l = cond-true (nat_lt q 416) _ _ (lt-ltb q 416 l)

module _ (f : Frame) (a : Responses) (t : ℕ → Answer) (solves : Solves f.code a t)
    (holds : (q : ℕ) → Below (at f.spots q) (at_place f.code t q)) (s : ℕ) (small : s < 128) (i : Inst)
    (e : slot_of f.code s ≡ Some i) where
  here : slice_get (nodes_of f.code) (slot_node f.code s) ≡ Some (inst_node s (Some i))
  here = node_of_slot f.code s i e

  -- what the instruction gives by the table, and of what has come
  abbrev by_table : Bool
  by_table = is_some (rule (role_of i.op) i.sense (computes f.code a (slot_node f.code s)) (at_place f.code t s)
      (at_place f.code t (128 + s)) (at_place f.code t (256 + s)))

  abbrev by_spots : Bool
  by_spots = is_some (rule (role_of i.op) i.sense (computes f.code (λ y z. 0) (slot_node f.code s)) (at f.spots s)
      (at f.spots (128 + s)) (at f.spots (256 + s)))

  met_is : is_some (t (slot_node f.code s)) ≡ by_table
  met_is = ap is_some (solves (slot_node f.code s)
      ∙ ap (λ m. node_gives m (computes f.code a (slot_node f.code s)) (at_place f.code t)) here)

  fires_is : is_some (token_with f (slot_node f.code s) 0) ≡ by_spots
  fires_is = ap (λ m. is_some (node_gives m (computes f.code (λ y z. 0) (slot_node f.code s)) (at f.spots))) here

  agrees : (q : ℕ) → q < 416 → has_come f q ≡ true → at f.spots q ≡ at_place f.code t q
  agrees q l h = below_is (at f.spots q) (at_place f.code t q) (holds q)
      (some_there (at f.spots q) (sym (spot_seen f q l) ∙ h))

  abbrev needs : Bool
  needs = all_come (has_come f) (needs_of i s)

  -- where all has come that is needed, both are the same
  same_where : needs ≡ true → by_table ≡ by_spots
  same_where n =
      let left = so_true (has_come f) (takes_left (role_of i.op)) s _ n in
      let right = so_true (has_come f) (takes_right (role_of i.op)) (128 + s) _ left.1 in
      let guard = so_true (has_come f) (is_guarded i.sense) (256 + s) [] right.1 in
      sym (rule_same (role_of i.op) i.sense (computes f.code (λ y z. 0) (slot_node f.code s))
      (computes f.code a (slot_node f.code s)) (at f.spots s) (at f.spots (128 + s)) (at f.spots (256 + s))
      (at_place f.code t s) (at_place f.code t (128 + s)) (at_place f.code t (256 + s))
      (λ k. agrees s (omega (arith, small)) (left.0 k))
      (λ k. agrees (128 + s) (omega (arith, small)) (right.0 k))
      (λ k. agrees (256 + s) (omega (arith, small)) (guard.0 k)))

  -- what fires has all that it needs
  fires_needs : by_spots ≡ true → needs ≡ true
  fires_needs h =
      let k = if_parts (matched i.sense (at f.spots (256 + s))) _ h in
      so_from (has_come f) (takes_left (role_of i.op)) s _
      (λ z. spot_seen f s (omega (arith, small))
      ∙ gives_left (role_of i.op) _ (at f.spots s) (at f.spots (128 + s)) k.1 z)
      (so_from (has_come f) (takes_right (role_of i.op)) (128 + s) _
      (λ z. spot_seen f (128 + s) (omega (arith, small))
      ∙ gives_right (role_of i.op) _ (at f.spots s) (at f.spots (128 + s)) k.1 z)
      (so_from (has_come f) (is_guarded i.sense) (256 + s) []
      (λ z. spot_seen f (256 + s) (omega (arith, small))
      ∙ matched_some i.sense (at f.spots (256 + s)) k.0 z) refl))

  fires_same : (is_some (t (slot_node f.code s)) && needs) ≡ is_some (token_with f (slot_node f.code s) 0)
  fires_same = ap (λ b. b && needs) met_is ∙ go (cases_Bool needs) (cases_Bool by_spots) ∙ sym fires_is
    where
      and_yes : (b c d : Bool) → c ≡ true → b ≡ d → (b && c) ≡ d
      and_yes true c d h e = h ∙ e
      and_yes false c d h e = e

      and_no : (b c : Bool) → c ≡ false → (b && c) ≡ false
      and_no true c h = h
      and_no false c h = refl

      go : (needs ≡ true) ⊎ (needs ≡ false) → (by_spots ≡ true) ⊎ (by_spots ≡ false) → (by_table && needs) ≡ by_spots
      go (inl n) k = and_yes by_table needs by_spots n (same_where n)
      go (inr n) (inr k) = and_no by_table needs n ∙ sym k
      go (inr n) (inl k) = absurd (both_ways needs n (fires_needs k))

-- phases ------------------------------------------------------------------------------------------

module _ {W : Type 0} (g : Grid W) (f : Frame) where
  asking_begun : (s n : ℕ) → is_idle (asking g f s n) ≡ false
  asking_begun s n = cond_both (g.asked f.number n) Standing (Asking (g.parcels f.number _)) (λ p. is_idle p ≡ false)
      (λ h. refl) (λ h. refl)

  after_begun : (s : ℕ) (i : Inst) (k : Kind) → is_idle (after_unit g f s i k) ≡ false
  after_begun s i course.Reading = refl
  after_begun s i Plain = refl
  after_begun s i Serving = cond_both (is_waiting (at f.requests i.number) s) (asking g f s i.number) (sent_of g f s)
      (λ p. is_idle p ≡ false) (λ h. asking_begun s i.number) (λ h. refl)

  slot_begun : (s : ℕ) (i : Inst) → is_idle (slot_phase g f s (Some i)) ≡ not (slice_index_or f.fired s false)
  slot_begun s i = go (slice_index_or f.fired s false)
    where
      unit : is_idle (cond (g.works f.number s) Working (after_unit g f s i (kind_of (form_of i.op)))) ≡ false
      unit = cond_both (g.works f.number s) Working (after_unit g f s i (kind_of (form_of i.op)))
          (λ p. is_idle p ≡ false)
          (λ h. refl) (λ h. after_begun s i (kind_of (form_of i.op)))

      go : (b : Bool)
          → is_idle (cond b (cond (g.works f.number s) Working (after_unit g f s i (kind_of (form_of i.op)))) Idle)
          ≡ not b
      go true = unit
      go false = refl

no_reading : (t : Form) → is_reading (kind_of t) ≡ false
no_reading General = refl
no_reading Immediate = refl
no_reading Load = refl
no_reading Store = refl
no_reading Branch = refl
no_reading Constant = refl

-- whether a task is ready, by its phase
abbrev ready_by : Frame → Phase → Task → Bool
ready_by f w k = (is_idle w && not (is_reading k.kind)) && (k.met && all_come (has_come f) k.needs)

-- the lane's entry is ready where the window's is
pub ready_seen : {W : Type 0} (g : Grid W) (f : Frame) (a : Responses) (t : ℕ → Answer) → Solves f.code a t
    → ((q : ℕ) → Below (at f.spots q) (at_place f.code t q)) → f.sealed ≡ false → (s : ℕ) → s < 128
    → ready (front_of (course_of f.code t) g f) s ≡ is_ready f s
ready_seen g f a t solves holds open' s l =
    ap₂ (ready_by f) (cond-true (nat_lt s slot_tasks) _ _ (lt-ltb s slot_tasks in_slots))
    (slot_is f.code t s in_slots)
    ∙ go (slot_of f.code s) refl
    ∙ sym (ap (λ b. not b && (is_some (slot_of f.code s) && (not (slice_index_or f.fired s false)
    && is_some (token_with f (slot_node f.code s) 0)))) open')
  where
    in_slots : s < slot_tasks
    in_slots = let k = slot_tasks_is in omega (arith, l, k)

    by : (w : Phase) (b : Bool) (r m c n : Bool) → is_idle w ≡ not b → r ≡ false → (m && c) ≡ n
        → ((is_idle w && not r) && (m && c)) ≡ (not b && n)
    by w true r m c n e h i = ap (λ z. (z && not r) && (m && c)) e
    by w false r m c n e h i = ap₂ (λ z y. (z && not y) && (m && c)) e h ∙ i

    go : (o : Option Inst) → slot_of f.code s ≡ o
        → ready_by f (slot_phase g f s o) (slot_task f.code t s o)
        ≡ (is_some o && (not (slice_index_or f.fired s false) && is_some (token_with f (slot_node f.code s) 0)))
    go None e = refl
    go (Some i) e = by (slot_phase g f s (Some i)) (slice_index_or f.fired s false)
        (is_reading (kind_of (form_of i.op))) (is_some (t (slot_node f.code s)))
        (all_come (has_come f) (needs_of i s))
        (is_some (token_with f (slot_node f.code s) 0)) (slot_begun g f s i) (no_reading (form_of i.op))
        (fires_same f a t solves holds s l i e)
