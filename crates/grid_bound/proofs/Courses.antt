-- The course of a good block is good: whatever its reads and loads are answered, each spot that an instruction which
-- gives a token takes is fed by a node that gives one, and so is each output.
use Rattle.std.proofs.Common.{◌≡◌, ◌≢◌, ℕ, ◌+◌, ◌-◌, ◌<◌, ◌≤◌, ◌⊎◌, inl, inr, true, cond}
use Rattle.std.proofs.Common.{nat_lt, List, [], ◌∷◌, ◌++◌, length, Option, Some, None, is_some, slice_get}
use Rattle.std.proofs.Common.{refl, sym, ap, ◌∙◌, subst, arith}
use Rattle.std.proofs.lemmas.Bool.{cond_both, cond-true, cond-false, lt-ltb, le-ltb, ltb-true, cases_lt}
use Rattle.trips_isa.specs.declared.block.Inst.{Inst}
use Rattle.trips_isa.specs.declared.block.ReadSlot.{ReadSlot}
use Rattle.trips_isa.specs.declared.block.Spot.TheVariants as spot
use Rattle.trips_isa.specs.declared.block.Block.{Block}
use Rattle.trips_isa.specs.declared.node.Node.{Node}
use Rattle.trips_isa.specs.declared.form.Form.{Form}
use Rattle.trips_isa.specs.declared.form.Form.TheVariants.{General, Immediate, Load, Store, Branch, Constant}
use Rattle.trips_isa.specs.Forms.{form_of, role_of, takes_left, takes_right, is_load}
use Rattle.trips_isa.specs.Operands.{is_guarded}
use Rattle.trips_isa.specs.Fits.{FitsRead}
use Rattle.trips_isa.specs.Rule.{Answer, matched, gives, rule}
use Rattle.trips_isa.specs.Places.{nodes_of, inst_node, read_node, targets, names, place_of}
use Rattle.trips_isa.specs.Places.{place_at}
use Rattle.trips_isa.specs.Places.{first_place}
use Rattle.trips_isa.specs.Tables.{node_gives, stores_below, Edge, Ranked}
use Rattle.trips_isa.specs.Blocks.{Responses, at_place, computes}
use Rattle.trips_isa.specs.inside.Blocks.{Solves}
use Rattle.trips_isa.specs.Limits.{most_nodes}
use Rattle.block_cases.specs.Orders.{slot_of}
use Rattle.block_cases.specs.inside.Good.{NamesPlace, OneToken}
use Rattle.block_cases.specs.Blocks.{wanted_of}
use Rattle.block_cases.specs.inside.Shapes.{shape}
use Rattle.block_cases.proofs.Steady.{to_left, to_right, to_predicate, or_right}
use Rattle.block_check.proofs.Spots.{owed_wanted, mask_below, lt_true}
use Rattle.commit_flush_spec.specs.Frames.{slot_node, is_target}
use Rattle.commit_flush_spec.specs.inside.Invariant.{IsRunnable}
use Rattle.commit_flush_spec.proofs.Tokens.{inst_in, one_law}
use Rattle.commit_flush_spec.proofs.Stored.{inst_fits}
use Rattle.commit_flush_spec.proofs.Producers.{IsNode, AtRead, AtSlot, a_node, node_of_slot, node_of_read, named_or}
use Rattle.commit_flush_spec.proofs.Producers.{NamesOutput, slot_names, read_names, giver}
use Rattle.grid_cycle_spec.specs.Stations.{data_node, home}
use Rattle.grid_cycle_spec.specs.DataTiles.{tile_by}
use Rattle.grid_bound.specs.inside.Course.{Task, Course, Member, Hits, Fed, Good}
use Rattle.grid_bound.specs.inside.Blocks.{slot_tasks, if_so, needs_of, numbers_in, waits_of, target_at, first_of}
use Rattle.grid_bound.specs.inside.Blocks.{slot_task, read_task, task_of, writes_of, outputs_of, course_of}
use Rattle.grid_bound.proofs.Sizes.{slot_tasks_is, room_is, slot_is, read_is}
use Rattle.grid_bound.proofs.Tasks.{tasks_good}
use Rattle.grid_bound.proofs.CourseSpots.{member_if, member_both, NumberOf, a_number, a_write, gives_left}
use Rattle.grid_bound.proofs.CourseSpots.{gives_right, matched_some, if_parts, GivenAt, first_from, some_there}
use Rattle.grid_bound.proofs.CourseSpots.{there_some, read_below, each_read, below_number, bound_of_load}

-- the task of a node --------------------------------------------------------------------------------

hits_target : (b : Block) (p q : ℕ) → p ≡ q → q < 416 → Hits (target_at b p) q
hits_target b p q e l = subst (λ t. Hits t q)
    (sym (cond-true (is_target p) (Some (record { spot = p; there = home b p })) None
    (ap is_target e ∙ lt_true q 416 l))) e

hits_first : (b : Block) (t : Form) (i : Inst) (p q : ℕ) → first_place t i.number i.first ≡ q → q < 416
    → Hits (first_of b t i p) q
hits_first b General i p q e l = hits_target b (place_at i.first) q e l
hits_first b Immediate i p q e l = hits_target b (place_at i.first) q e l
hits_first b Load i p q e l = hits_target b (place_at i.first) q e l
hits_first b Store i p q e l = e
hits_first b Branch i p q e l = e
hits_first b Constant i p q e l = hits_target b (place_at i.first) q e l

hits_output : (b : Block) (t : Form) (i : Inst) (p q : ℕ) → NamesOutput t i.number q → Hits (first_of b t i p) q
hits_output b t i p q (inl h) = subst (λ t. Hits (first_of b t i p) q) (sym h.0) h.1
hits_output b t i p q (inr h) = subst (λ t. Hits (first_of b t i p) q) (sym h.0) h.1

module _ (b : Block) (runnable : IsRunnable b) (a : Responses) (g : ℕ → Answer) (solves : Solves b a g) where
  one : OneToken (nodes_of b) (wanted_of b) (λ x. shape (g x))
  one = one_law b runnable a g solves

  rank : ℕ → ℕ
  rank = (runnable.good.ranked).0

  ranked : Ranked (nodes_of b) rank
  unfolding rank
  ranked = (runnable.good.ranked).1

  -- the node of a task
  pub node_of : ℕ → ℕ
  node_of x = cond (nat_lt x slot_tasks) (slot_node b x) (x - slot_tasks)

  node_at_slot : (s : ℕ) → s < slot_tasks → node_of s ≡ slot_node b s
  unfolding node_of
  node_at_slot s l = cond-true (nat_lt s slot_tasks) _ _ (lt-ltb s slot_tasks l)

  node_at_read : (r : ℕ) → node_of (slot_tasks + r) ≡ r
  unfolding node_of
  node_at_read r = cond-false (nat_lt (slot_tasks + r) slot_tasks) _ _
      (le-ltb (slot_tasks + r) slot_tasks (omega arith))
      ∙ (let e : slot_tasks + r - slot_tasks ≡ r = omega arith in e)

  pub task_rank : ℕ → ℕ
  task_rank x = rank (node_of x)

  slot_small : (s : ℕ) (i : Inst) → slot_of b s ≡ Some i → s < slot_tasks
  slot_small s i e =
      let l : s < length b.insts.items = inst_in b.insts.items s i e in
      let n : length b.insts.items ≡ 128 = runnable.fits.insts in
      let k = slot_tasks_is in omega (arith, l, n, k)

  abbrev c : Course
  c = course_of b g

  -- the task of a node that names a place and gives a token feeds it
  feeds_it : (y q r : ℕ) → NamesPlace (nodes_of b) y q → g y ≢ None → rank y < r → q < 449 → Fed c task_rank r q
  unfolding task_rank
  feeds_it y q r nm n lr lq = by (a_node b a g solves y n)
    where
      by : IsNode b y → Fed c task_rank r q
      by (AtRead slot e) = record {
        giver = slot_tasks + y;
        inside = (let l : y < length b.reads.items = read_below b.reads.items y slot e in
            let f = runnable.fits.reads in let k = slot_tasks_is in let j = room_is in omega (arith, l, f, k, j));
        met = ap (λ t. t.met) (read_is b g y ∙ ap (read_task b) e);
        below = subst (λ z. rank z < r) (sym (node_at_read y)) lr;
        gives = subst (λ t. Hits t.first q ⊎ Hits t.second q) (sym (read_is b g y ∙ ap (read_task b) e))
            (hit (cases_lt q 416));
      }
        where
          fits : FitsRead slot
          fits = each_read b.reads.items runnable.fits.each_read y slot e

          same : nm.0 ≡ read_node slot
          same = let k : Some nm.0 ≡ Some (read_node slot) = sym nm.1 ∙ node_of_read b y slot e in cc

          two : (place_of slot.first ≡ q) ⊎ (place_at slot.second ≡ q)
          two = named_or _ _ q (subst (λ (k : Node). names (targets k) q ≡ true) same nm.2)

          hit : (q < 416) ⊎ (416 ≤ q) → Hits (read_task b (Some slot)).first q
              ⊎ Hits (read_task b (Some slot)).second q
          hit (inl l) = elim two [
            | inl z ↦ inl (hits_target b (place_of slot.first) q z l)
            | inr z ↦ inr (hits_target b (place_at slot.second) q z l)
          ]
          hit (inr l) = absurd (read_names b y q slot fits (l, lq) e nm)
      by (AtSlot s i d e) = record {
        giver = s;
        inside = (let k = slot_tasks_is in let j = room_is in let l = slot_small s i e in omega (arith, l, k, j));
        met = ap (λ t. t.met) here ∙ subst (λ z. is_some (g z) ≡ true) d (there_some (g y) n);
        below = subst (λ z. rank z < r) (d ∙ sym (node_at_slot s (slot_small s i e))) lr;
        gives = subst (λ t. Hits t.first q ⊎ Hits t.second q) (sym here) (hit (cases_lt q 416));
      }
        where
          here : task_of b g s ≡ slot_task b g s (Some i)
          here = slot_is b g s (slot_small s i e) ∙ ap (slot_task b g s) e

          names_it : NamesPlace (nodes_of b) (slot_node b s) q
          names_it = subst (λ z. NamesPlace (nodes_of b) z q) d nm

          same : names_it.0 ≡ inst_node s (Some i)
          same = let k : Some names_it.0 ≡ Some (inst_node s (Some i)) = sym names_it.1 ∙ node_of_slot b s i e in cc

          two : (first_place (form_of i.op) i.number i.first ≡ q) ⊎ (place_at i.second ≡ q)
          two = named_or _ _ q (subst (λ (k : Node). names (targets k) q ≡ true) same names_it.2)

          hit : (q < 416) ⊎ (416 ≤ q)
              → Hits (slot_task b g s (Some i)).first q ⊎ Hits (slot_task b g s (Some i)).second q
          hit (inl l) = elim two [
            | inl z ↦ inl (hits_first b (form_of i.op) i (data_node (tile_by i (at_place b g s))) q z l)
            | inr z ↦ inr (hits_target b (place_at i.second) q z l)
          ]
          hit (inr l) = inl (hits_output b (form_of i.op) i (data_node (tile_by i (at_place b g s))) q
              (slot_names b s q i (inst_fits b runnable.fits s i e) (l, lq) e names_it))

  -- an output is fed
  output_fed : (q r : ℕ) → q < 448 → wanted_of b q ≡ true → ((y : ℕ) → NamesPlace (nodes_of b) y q → rank y < r)
      → Fed c task_rank r q
  output_fed q r l w up = let y = giver (nodes_of b) g q (one.exactly q l w) in
      feeds_it y.0 q r y.1 y.2 (up y.0 y.1) (omega (arith, l))

  -- the spots of an instruction that gives a token -------------------------------------------------

  module _ (s : ℕ) (i : Inst) (e : slot_of b s ≡ Some i) (met : is_some (g (slot_node b s)) ≡ true) where
    here : slice_get (nodes_of b) (slot_node b s) ≡ Some (inst_node s (Some i))
    here = node_of_slot b s i e

    given : is_some (rule (role_of i.op) i.sense (computes b a (slot_node b s)) (at_place b g s)
        (at_place b g (128 + s))
        (at_place b g (256 + s))) ≡ true
    given = sym (ap is_some (solves (slot_node b s)
        ∙ ap (λ m. node_gives m (computes b a (slot_node b s)) (at_place b g)) here)) ∙ met

    parts : (matched i.sense (at_place b g (256 + s)) ≡ true)
        × (is_some (gives (role_of i.op) (computes b a (slot_node b s)) (at_place b g s) (at_place b g (128 + s)))
        ≡ true)
    parts = if_parts (matched i.sense (at_place b g (256 + s))) _ given

    -- a place with a token is fed by a node that feeds this one
    place_fed : (q : ℕ) → q < 449 → is_some (at_place b g q) ≡ true
        → ((y : ℕ) (m : Node) → slice_get (nodes_of b) y ≡ Some m → names (targets m) q ≡ true
        → Edge (nodes_of b) y (slot_node b s)) → Fed c task_rank (rank (slot_node b s)) q
    place_fed q l t edge =
        let d : GivenAt (nodes_of b) q g = first_from (nodes_of b) q g t in
        feeds_it d.0 q (rank (slot_node b s)) (d.1, d.2, d.3) (some_there (g d.0) d.4)
        (ranked.rises d.0 (slot_node b s) (edge d.0 d.1 d.2 d.3)) l

    small : s < 128
    small = let l = slot_small s i e in let k = slot_tasks_is in omega (arith, l, k)

    needs_fed : (q : ℕ) → Member q (needs_of i s) → Fed c task_rank (rank (slot_node b s)) q
    needs_fed q m = left (member_if (takes_left (role_of i.op)) s q _ m)
      where
        guard : ((is_guarded i.sense ≡ true) × (256 + s ≡ q)) ⊎ Member q [] → Fed c task_rank (rank (slot_node b s)) q
        guard (inr k) = absurd k
        guard (inl k) = subst (Fed c task_rank (rank (slot_node b s))) k.1
            (place_fed (256 + s) (let l = small in omega (arith, l))
            (matched_some i.sense (at_place b g (256 + s)) parts.0 k.0)
            (λ y n j nm. to_predicate (nodes_of b) (slot_node b s) y n (inst_node s (Some i)) j here nm))

        right : ((takes_right (role_of i.op) ≡ true) × (128 + s ≡ q))
            ⊎ Member q (if_so (is_guarded i.sense) (256 + s) [])
            → Fed c task_rank (rank (slot_node b s)) q
        right (inr k) = guard (member_if (is_guarded i.sense) (256 + s) q [] k)
        right (inl k) = subst (Fed c task_rank (rank (slot_node b s))) k.1
            (place_fed (128 + s) (let l = small in omega (arith, l))
            (gives_right (role_of i.op) (computes b a (slot_node b s)) (at_place b g s)
            (at_place b g (128 + s)) parts.1 k.0)
            (λ y n j nm. to_right (nodes_of b) (slot_node b s) y n (inst_node s (Some i)) j here nm))

        left : ((takes_left (role_of i.op) ≡ true) × (s ≡ q))
            ⊎ Member q (if_so (takes_right (role_of i.op)) (128 + s) (if_so (is_guarded i.sense) (256 + s) []))
            → Fed c task_rank (rank (slot_node b s)) q
        left (inr k) = right (member_if (takes_right (role_of i.op)) (128 + s) q _ k)
        left (inl k) = subst (Fed c task_rank (rank (slot_node b s))) k.1
            (place_fed s (let l = small in omega (arith, l))
            (gives_left (role_of i.op) (computes b a (slot_node b s)) (at_place b g s)
            (at_place b g (128 + s)) parts.1 k.0)
            (λ y n j nm. to_left (nodes_of b) (slot_node b s) y n (inst_node s (Some i)) j here nm))

    -- a store of a lower number feeds a load
    store_edge : (m y : ℕ) → m < i.number → is_load (form_of i.op) ≡ true → NamesPlace (nodes_of b) y (416 + m)
        → Edge (nodes_of b) y (slot_node b s)
    store_edge m y l k (n, d, nm) = record {
      source = n;
      target = inst_node s (Some i);
      is_source = d;
      is_target = here;
      fed = or_right (names (targets n) s) _ (or_right (names (targets n) (128 + s)) _
          (or_right (names (targets n) (256 + s)) _
          (subst (λ t. stores_below (targets n) t ≡ true) (sym (bound_of_load (form_of i.op) i.number k))
          (below_number (targets n) m i.number l nm))));
    }

    waits_fed : (q : ℕ) → Member q (waits_of b i) → Fed c task_rank (rank (slot_node b s)) q
    waits_fed q = cond_both (is_load (form_of i.op)) (numbers_in b.mask i.number) []
        (λ qs. Member q qs → Fed c task_rank (rank (slot_node b s)) q) (λ k m. by k (a_number b.mask i.number q m))
        (λ k m. absurd m)
      where
        by : is_load (form_of i.op) ≡ true → NumberOf b.mask i.number q → Fed c task_rank (rank (slot_node b s)) q
        by k (m, l, w, z) =
            let lm : m < 32 = mask_below b.mask m w in
            subst (Fed c task_rank (rank (slot_node b s))) z
            (output_fed (416 + m) (rank (slot_node b s)) (omega (arith, lm)) (owed_wanted b (spot.Store m) w)
            (λ y nm. ranked.rises y (slot_node b s) (store_edge m y l k nm)))

  -- tasks -------------------------------------------------------------------------------------------

  abbrev Feeds : ℕ → (Task → List ℕ) → Task → Type 0
  Feeds x spots t = t.met ≡ true → (q : ℕ) → Member q (spots t) → Fed c task_rank (task_rank x) q

  rank_at_slot : (s : ℕ) → s < slot_tasks → rank (slot_node b s) ≡ task_rank s
  unfolding task_rank
  rank_at_slot s l = ap rank (sym (node_at_slot s l))

  slot_needs : (s : ℕ) → s < slot_tasks → (o : Option Inst) → slot_of b s ≡ o
      → Feeds s (λ t. t.needs) (slot_task b g s o)
  slot_needs s l None e m q k = absurd (cc)
  slot_needs s l (Some i) e m q k = subst (λ r. Fed c task_rank r q) (rank_at_slot s l) (needs_fed s i e m q k)

  slot_waits : (s : ℕ) → s < slot_tasks → (o : Option Inst) → slot_of b s ≡ o
      → Feeds s (λ t. t.waits) (slot_task b g s o)
  slot_waits s l None e m q k = absurd (cc)
  slot_waits s l (Some i) e m q k = subst (λ r. Fed c task_rank r q) (rank_at_slot s l) (waits_fed s i e m q k)

  read_needs : (x : ℕ) (o : Option ReadSlot) → Feeds x (λ t. t.needs) (read_task b o)
  read_needs x None m q k = absurd k
  read_needs x (Some r) m q k = absurd k

  read_waits : (x : ℕ) (o : Option ReadSlot) → Feeds x (λ t. t.waits) (read_task b o)
  read_waits x None m q k = absurd k
  read_waits x (Some r) m q k = absurd k

  needs_at : (x : ℕ) → Feeds x (λ t. t.needs) (task_of b g x)
  needs_at x = cond_both (nat_lt x slot_tasks) (slot_task b g x (slot_of b x))
      (read_task b (slice_get b.reads.items (x - slot_tasks))) (Feeds x (λ t. t.needs))
      (λ e. slot_needs x (ltb-true x slot_tasks e) (slot_of b x) refl)
      (λ e. read_needs x (slice_get b.reads.items (x - slot_tasks)))

  waits_at : (x : ℕ) → Feeds x (λ t. t.waits) (task_of b g x)
  waits_at x = cond_both (nat_lt x slot_tasks) (slot_task b g x (slot_of b x))
      (read_task b (slice_get b.reads.items (x - slot_tasks))) (Feeds x (λ t. t.waits))
      (λ e. slot_waits x (ltb-true x slot_tasks e) (slot_of b x) refl)
      (λ e. read_waits x (slice_get b.reads.items (x - slot_tasks)))

  -- outputs -------------------------------------------------------------------------------------------

  ends_fed : (q : ℕ) → Member q (outputs_of b) → Fed c task_rank most_nodes q
  ends_fed q m = by (member_both q (writes_of (length b.writes.items)) _ m)
    where
      up : (y : ℕ) → NamesPlace (nodes_of b) y q → rank y < most_nodes
      up y nm = ranked.below y

      last : Member q (numbers_in b.mask 32) ⊎ Member q (448 ∷ []) → Fed c task_rank most_nodes q
      last (inl k) = let d : NumberOf b.mask 32 q = a_number b.mask 32 q k in
          let l : d.0 < 32 = d.1 in
          let z : 416 + d.0 ≡ q = d.3 in
          output_fed q most_nodes (omega (arith, l, z))
          (ap (wanted_of b) (sym z) ∙ owed_wanted b (spot.Store d.0) d.2) up
      last (inr (inr k)) = absurd k
      last (inr (inl k)) = subst (Fed c task_rank most_nodes) k
          (let y = giver (nodes_of b) g 448 one.exit in
          feeds_it y.0 448 most_nodes y.1 y.2 (ranked.below y.0) (omega arith))

      by : Member q (writes_of (length b.writes.items)) ⊎ Member q (numbers_in b.mask 32 ++ 448 ∷ [])
          → Fed c task_rank most_nodes q
      by (inl k) = let d : (w : ℕ) × (w < length b.writes.items) × (384 + w ≡ q) =
          a_write (length b.writes.items) q k in
          let few : length b.writes.items ≤ 32 = runnable.fits.writes in
          let l : d.0 < length b.writes.items = d.1 in
          let z : 384 + d.0 ≡ q = d.2 in
          output_fed q most_nodes (omega (arith, few, l, z))
          (ap (wanted_of b) (sym z) ∙ owed_wanted b (spot.Write d.0) l) up
      by (inr k) = last (member_both q (numbers_in b.mask 32) (448 ∷ []) k)

  -- the course of a block that may run is good
  pub course_good : Good (course_of b g)
  course_good = record {
    rank = task_rank;
    top = most_nodes;
    by = record {
      good = tasks_good b g;
      fed = λ x q l m k. needs_at x m q k;
      held = λ x q l m k. waits_at x m q k;
      ends = ends_fed;
    };
  }
