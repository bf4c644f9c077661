-- Part (5), issues: a free unit issues the lowest ready entry of the oldest frame on its tile,
-- else one of another frame.
use Rattle.std.proofs.Common.{◌≡◌, ◌≢◌, ℕ, suc, ◌+◌, ◌*◌, ◌-◌, ◌<◌, ◌≤◌, ◌==◌, ◌&&◌, ◌||◌, ◌⊎◌, inl, inr, Bool}
use Rattle.std.proofs.Common.{true, false, cond, not, List, [], ◌∷◌, length, Option, Some, None}
use Rattle.std.proofs.Common.{slice_get, slice_index, slice_index_or, refl, sym, ap, ap₂, ◌∙◌, subst, arith}
use Rattle.std.proofs.Common.{true≢false}
use Rattle.std.proofs.lemmas.Bool.{cond_both, cond-true, cond-false, and_from}
use Rattle.std.proofs.lemmas.Bool.{and_parts, and_left, and_right, both_ways}
use Rattle.std.proofs.lemmas.Bool.{cases_eq, cases_lt, eqb-true, eq-eqb, ne_eqb}
use Rattle.std.proofs.lemmas.Bool.{not_from_false, not-true, or_left, false_from_ne_true}
use Rattle.std.proofs.lemmas.List.{get_or-set_other}
use Rattle.trips_isa.specs.declared.block.Inst.{Inst}
use Rattle.trips_isa.specs.declared.block.ReadSlot.{ReadSlot}
use Rattle.trips_isa.specs.declared.block.Block.{Block}
use Rattle.trips_isa.specs.declared.run.Stepped.TheVariants as stepped
use Rattle.trips_isa.specs.Forms.{form_of}
use Rattle.trips_isa.specs.Rule.{Answer}
use Rattle.trips_isa.specs.Blocks.{Responses, at_place}
use Rattle.trips_isa.specs.inside.Blocks.{Solves}
use Rattle.block_cases.specs.Orders.{slot_of}
use Rattle.commit_flush_spec.specs.Causes.{NoFrame, Done, NotNow}
use Rattle.commit_flush_spec.specs.Frames.{Frame, Exit, at}
use Rattle.trips_isa.specs.declared.block.Stored.{Stored}
use Rattle.commit_flush_spec.specs.Older.{committed}
use Rattle.commit_flush_spec.specs.Dataflow.{can_fire, fire}
use Rattle.commit_flush_spec.specs.inside.Invariant.{Below, AllGood, FrameOk}
use Rattle.commit_flush_spec.specs.inside.Laws.{WindowOk, NoneLost, AllKept}
use Rattle.commit_flush_spec.specs.Window.{Window, alone, change, can, can_now, unless_over, done, happens}
use Rattle.commit_flush_spec.specs.Window as window
use Rattle.commit_flush_spec.proofs.Events.{taken}
use Rattle.commit_flush_spec.proofs.Lists.{flag_here}
use Rattle.commit_flush_spec.proofs.Stored.{number_small}
use Rattle.commit_flush_spec.proofs.Whole.{happens_moves}
use Rattle.commit_flush_spec.specs.inside.Observers.{has_number}
use Rattle.commit_flush_spec.proofs.Bits.{ready_tells}
use Rattle.commit_flush_spec.proofs.Search.{done_is}
use Rattle.commit_flush_spec.proofs.FramesSeen.{change_oldest}
use Rattle.grid_cycle_spec.specs.Stations.{tile_of}
use Rattle.grid_cycle_spec.specs.Grid.{Grid}
use Rattle.grid_cycle_spec.specs.Acting.{is_done, may}
use Rattle.grid_cycle_spec.specs.inside.Arrivals.{is_waiting}
use Rattle.grid_cycle_spec.specs.Choosing.{least, eldest, found_in, slots, with_frame}
use Rattle.grid_cycle_spec.specs.Units.{takes, issued, issue_chosen, issues, ready as unit_ready}
use Rattle.grid_bound.specs.inside.Course.{Course, Task, is_reading}
use Rattle.grid_bound.specs.inside.Lane.{any, Working, Front, is_idle, unissued, ready}
use Rattle.grid_bound.specs.inside.Sending.{tile_of as lane_tile}
use Rattle.grid_bound.specs.inside.Blocks.{slot_tasks, kind_of, slot_task, read_task, course_of}
use Rattle.grid_bound.specs.inside.Seen.{slot_phase, read_phase, phase_of, has_come, front_of}
use Rattle.grid_bound.proofs.Counting.{any_from}
use Rattle.grid_bound.proofs.Ready.{ready_seen}
use Rattle.grid_bound.proofs.Sizes.{slot_tasks_is, slot_is, read_is}
use Rattle.grid_bound.specs.inside.Behind.{Behind}
use Rattle.grid_bound.proofs.Ahead.{same_number, younger_apart}
use Rattle.grid_bound.proofs.Others.{behind_at, issue_other}
use Rattle.grid_bound.proofs.OldestEnds.{asks_oldest, oldest_ok}
use Rattle.grid_bound.proofs.Fronts.{front_behind, slot_far, slot_phase_is, task_same, at_slot, at_read}
use Rattle.grid_bound.proofs.Choosing.{IsLeast, is_least, none_least, elder_other, none_any}
use Rattle.grid_bound.proofs.BankAnswers.{same_done}
use Rattle.grid_bound.proofs.UnitResults.{slots_are}
use Rattle.grid_bound.proofs.Firing.{Fires, fires_slot, others_wait}

-- units of other tiles stay as one issues
pub issue_units : {W : Type 0} (blocks : List Block) (budget k : ℕ) (o : Option (ℕ × ℕ)) (m : Grid W) (t : ℕ)
    → (t == k) ≡ false → (issue_chosen blocks budget k o m).units t ≡ m.units t
issue_units blocks budget k None m t e = refl
issue_units {W} blocks budget k (Some q) m t e = go m.window.frames
  where
    go : (fs : List Frame)
        → (with_frame q.0 (λ x h. issued blocks budget k q.0 q.1 (takes (slot_of x.code q.1)) h) fs m).units t
        ≡ m.units t
    go [] = refl
    go (x ∷ fs) = cond_both (x.number == q.0) (issued blocks budget k q.0 q.1 (takes (slot_of x.code q.1)) m)
        (with_frame q.0 (λ x h. issued blocks budget k q.0 q.1 (takes (slot_of x.code q.1)) h) fs m)
        (λ (h : Grid W). h.units t ≡ m.units t)
        (λ z. cond-false (t == k) (takes (slot_of x.code q.1)) (m.units t) e) (λ z. go fs)

came_same : (e E : Frame) → E.spots ≡ e.spots → E.stores ≡ e.stores → E.exit ≡ e.exit → has_come E ≡ has_come e
came_same e E a b c =
    ap (λ (l : List Answer). has_come (record E { spots = l })) a
    ∙ ap (λ (l : List (Option Stored)). has_come (record E { spots = e.spots; stores = l })) b
    ∙ ap (λ (x : Option Exit). has_come (record E { spots = e.spots; stores = e.stores; exit = x })) c

module _ {W : Type 0} (blocks : List Block) (good : AllGood blocks) (budget : ℕ) (m : Grid W) (e : Frame)
    (younger : List Frame) (i : m.window.frames ≡ e ∷ younger) (ok : WindowOk blocks budget m.window)
    (went : m.window.over ≡ stepped.Went) (runs : e.sealed ≡ false)
    (unresolved : (n s : ℕ) → at e.requests n ≡ Some s → at e.stores n ≡ None)
    (numbered : (n s : ℕ) → at e.requests n ≡ Some s → (i : Inst) → slot_of e.code s ≡ Some i
    → has_number (form_of i.op) ≡ true)
    (a : Responses) (t : ℕ → Answer) (solves : Solves e.code a t)
    (below : (q : ℕ) → Below (at e.spots q) (at_place e.code t q)) (k : ℕ) where
  abbrev c : Course
  c = course_of e.code t

  abbrev F : Front
  F = front_of c m e

  -- task x is ready on the tile
  abbrev on_tile : ℕ → Bool
  on_tile x = ready F x && lane_tile F x == k

  -- task x is the lowest of them
  abbrev pub picked : ℕ → Bool
  picked x = on_tile x && not (any x on_tile)

  own_ok : FrameOk blocks (committed m.window.state) e
  own_ok = oldest_ok blocks budget m.window e younger ok i

  -- what is ready is a slot with an instruction
  pub record IsSlot (x : ℕ) : Type 0 where
    pub inside : x < slot_tasks
    pub inst : Inst
    pub is_inst : slot_of e.code x ≡ Some inst

  ready_slot : (x : ℕ) → ready F x ≡ true → IsSlot x
  ready_slot x r = by (cases_lt x slot_tasks)
    where
      open' : unissued F x ≡ true
      open' = (and_parts (unissued F x) _ r).0

      idle : is_idle (F.at x) ≡ true
      idle = (and_parts (is_idle (F.at x)) _ open').0

      no_read : is_reading (c.task x).kind ≡ false
      no_read = not-true _ (and_parts (is_idle (F.at x)) _ open').1

      by : (x < slot_tasks) ⊎ (slot_tasks ≤ x) → IsSlot x
      by (inl l) = go (slot_of e.code x) refl
        where
          go : (o : Option Inst) → slot_of e.code x ≡ o → IsSlot x
          go (Some j) z = record { inside = l; inst = j; is_inst = z }
          go None z = absurd (true≢false (sym idle ∙ ap is_idle (at_slot m e x l ∙ ap (slot_phase m e x) z)))
      by (inr l) = absurd (go (slice_get e.code.reads.items (x - slot_tasks)) refl)
        where
          is : x ≡ slot_tasks + (x - slot_tasks)
          is = omega (arith, l)

          go : (o : Option ReadSlot) → slice_get e.code.reads.items (x - slot_tasks) ≡ o → ⊥
          go None z = true≢false (sym idle ∙ ap (λ z. is_idle (F.at z)) is
              ∙ ap is_idle (at_read m e (x - slot_tasks) ∙ ap (read_phase m e (x - slot_tasks)) z))
          go (Some s) z = true≢false (sym (ap (λ k. is_reading k.kind) (read_is e.code t (x - slot_tasks)
              ∙ ap (read_task e.code) z)) ∙ sym (ap (λ z. is_reading (c.task z).kind) is) ∙ no_read)

  slot_tile : (x : ℕ) → (s : IsSlot x) → lane_tile F x ≡ tile_of x
  slot_tile x s = ap (λ (k : Task). k.tile) (slot_is e.code t x s.inside ∙ ap (slot_task e.code t x) s.is_inst)

  asks : (s : ℕ) → can blocks budget (window.Fire e.number s) m.window ≡ can_fire s (committed m.window.state) e
  asks s = ap (λ o. unless_over o (can_now blocks budget (window.Fire e.number s) m.window)) went
      ∙ asks_oldest blocks budget m.window e younger i (NotNow NoFrame) (can_fire s)

  may_is : (s : ℕ) → s < 128 → may blocks budget (window.Fire e.number s) m ≡ ready F s
  may_is s l = ap is_done (asks s) ∙ same_done (can_fire s (committed m.window.state) e)
      ∙ sym (ready_tells (committed m.window.state) e s) ∙ sym (ready_seen m e a t solves below runs s l)

  abbrev test : ℕ → Bool
  test = unit_ready blocks budget m k e

  -- what the tile asks is what the lane asks
  test_is : (s : ℕ) → s < 128 → test s ≡ on_tile s
  test_is s l = ap (λ b. (tile_of s == k) && b) (may_is s l) ∙ go (ready F s) refl
    where
      go : (b : Bool) → ready F s ≡ b → ((tile_of s == k) && b) ≡ (b && lane_tile F s == k)
      go false z = and_right (tile_of s == k) false refl
      go true z = and_on (tile_of s == k) ∙ sym (ap (λ n. n == k) (slot_tile s (ready_slot s z)))
        where
          and_on : (b : Bool) → (b && true) ≡ b
          and_on true = refl
          and_on false = refl

  -- the oldest frame behind the issue
  pub record AfterIssue (h : Grid W) : Type 0 where
    pub frame : Frame
    pub behind : List Frame
    pub frames : h.window.frames ≡ frame ∷ behind
    pub number : frame.number ≡ e.number
    pub code : frame.code ≡ e.code
    pub spots : frame.spots ≡ e.spots
    pub stores : frame.stores ≡ e.stores
    pub goes : frame.sealed ≡ false
    pub come : has_come frame ≡ has_come e
    pub generation : slice_index h.window.generations frame.number ≡ slice_index m.window.generations e.number
    pub careful : h.careful frame.number ≡ m.careful e.number
    pub phases : (x : ℕ) → phase_of h frame x ≡ cond (m.units k == 0 && picked x) Working (F.at x)
    pub other_units : (t : ℕ) → (t == k) ≡ false → h.units t ≡ m.units t
    pub busy : 1 ≤ m.units k → h.units k ≡ m.units k
    pub own : (x : ℕ) → m.units k ≡ 0 → picked x ≡ true → h.units k ≡ (c.task x).latency

  -- nothing is issued of the oldest frame
  unchanged : (h : Grid W) → Behind e m h → ((t : ℕ) → (t == k) ≡ false → h.units t ≡ m.units t)
      → (1 ≤ m.units k → h.units k ≡ m.units k) → ((x : ℕ) → (m.units k == 0 && picked x) ≡ false) → AfterIssue h
  unchanged h b units busy none = record {
    frame = e;
    behind = b.younger;
    frames = b.frames;
    number = refl;
    code = refl;
    spots = refl;
    stores = refl;
    goes = runs;
    come = refl;
    generation = b.generation;
    careful = b.careful;
    phases = λ x. ap (λ (z : Front). z.at x) (front_behind c e m h b) ∙ sym (cond-false _ _ _ (none x));
    other_units = units;
    busy = busy;
    own = λ x z p. absurd (both_ways (m.units k == 0 && picked x) (none x)
        (and_from (m.units k == 0) (picked x) (eq-eqb (m.units k) 0 z) p));
  }

  -- a slot of the oldest frame is issued ------------------------------------------------------------

  module _ (free : m.units k ≡ 0) (s : ℕ) (first : IsLeast test 128 s) where
    small : s < 128
    small = first.below

    on_s : on_tile s ≡ true
    on_s = sym (test_is s small) ∙ first.passes

    slot : IsSlot s
    slot = ready_slot s (and_parts (ready F s) _ on_s).0

    none_lower : any s on_tile ≡ false
    none_lower = none_any on_tile s
        (λ x l. sym (test_is x (let z = small in omega (arith, l, z))) ∙ first.none x l)

    picked_s : picked s ≡ true
    picked_s = and_from (on_tile s) _ on_s (not_from_false (any s on_tile) none_lower)

    only : (x : ℕ) → x ≢ s → picked x ≡ false
    only x n = false_from_ne_true (picked x) (λ p. by p (cases_lt x s))
      where
        by : picked x ≡ true → (x < s) ⊎ (s ≤ x) → ⊥
        by p (inl l) = both_ways (on_tile x) (sym (test_is x (let z = small in omega (arith, l, z))) ∙ first.none x l)
            (and_parts (on_tile x) _ p).0
        by p (inr l) = both_ways (any x on_tile) (not-true _ (and_parts (on_tile x) _ p).1)
            (any_from x on_tile s (omega (arith, l, n)) on_s)

    it : can blocks budget (window.Fire e.number s) m.window ≡ Done
    it = asks s ∙ done_is (can_fire s (committed m.window.state) e)
        (sym (same_done (can_fire s (committed m.window.state) e)) ∙ sym (ap is_done (asks s)) ∙ may_is s small
        ∙ (and_parts (ready F s) _ on_s).0)

    abbrev E : Frame
    E = fire s (committed m.window.state) e

    abbrev after : Window
    after = happens blocks budget (window.Fire e.number s) m.window

    after_is : after ≡ record m.window { frames = E ∷ younger }
    after_is = taken blocks budget (window.Fire e.number s) m.window it
        ∙ ap (λ (l : List Frame). record m.window { frames = l })
        (ap (λ l. change (alone (fire s)) (committed m.window.state) l e.number) i
        ∙ change_oldest (alone (fire s)) (committed m.window.state) e younger)

    facts : Fires e E s slot.inst
    facts = fires_slot s (committed m.window.state) e slot.inst slot.is_inst

    lost : NoneLost E
    lost = (subst AllKept (ap (λ (w : Window). w.frames) after_is)
        (happens_moves blocks good budget (window.Fire e.number s) m.window ok).ok.kept).0 (facts.sealed ∙ runs)

    abbrev time : ℕ
    time = takes (slot_of e.code s)

    abbrev H : Grid W
    H = issued blocks budget k e.number s time m

    waiting : (y : ℕ) → y ≢ s → (n : ℕ) → is_waiting (at E.requests n) y ≡ is_waiting (at e.requests n) y
    waiting = others_wait blocks (committed m.window.state) (committed m.window.state) e E s slot.inst facts own_ok
        lost
        (number_small e.code (good e.block e.code own_ok.code).fits s slot.inst slot.is_inst) unresolved numbered

    not_this : (n : ℕ) → n ≡ e.number → (x : ℕ) → x ≢ s → H.works n x ≡ m.works e.number x
    not_this n z x o = ap (λ n. H.works n x) z
        ∙ ap (λ b. ((e.number == e.number) && b) || m.works e.number x) (ne_eqb x s o)
        ∙ ap (λ b. b || m.works e.number x) (and_right (e.number == e.number) false refl)

    others_same : (x : ℕ) → x ≢ s → phase_of H E x ≡ F.at x
    others_same x n = task_same m H e E x (record {
      code = facts.code;
      fired = ap (λ l. slice_index_or l x false) facts.fired ∙ get_or-set_other e.fired s x true false n;
      reads = λ l. ap (λ r. slice_index_or r (x - slot_tasks) false) facts.reads;
      works = not_this E.number facts.number x n;
      waits = λ j z. waiting x n j.number;
      asked = λ j z w. ap (λ n. m.asked n j.number) facts.number;
      first = ap (λ n. m.parcels n (2 * x)) facts.number;
      second = ap (λ n. m.parcels n (suc (2 * x))) facts.number;
    })

    works_now : H.works E.number s ≡ true
    works_now = ap (λ n. H.works n s) facts.number
        ∙ or_left _ _ (and_from (e.number == e.number) (s == s) (same_number e.number) (same_number s))

    now : phase_of H E s ≡ Working
    now = at_slot H E s slot.inside
        ∙ ap (slot_phase H E s) (ap (λ b. slot_of b s) facts.code ∙ slot.is_inst)
        ∙ slot_phase_is H E s slot.inst
        ∙ ap₂ (λ f w. slot_far (kind_of (form_of (slot.inst).op)) f w
        (is_waiting (at E.requests (slot.inst).number) s)
        (H.asked E.number (slot.inst).number) (H.parcels E.number (2 * s)) (H.parcels E.number (suc (2 * s))))
        (ap (λ l. slice_index_or l s false) facts.fired
        ∙ flag_here e.fired s (let z : length e.fired ≡ 128 = own_ok.sized.fired in let l = small in
        omega (arith, z, l))) works_now

    abbrev zero_units : Bool
    zero_units = m.units k == 0

    phases : (x : ℕ) → phase_of H E x ≡ cond (zero_units && picked x) Working (F.at x)
    phases x = by (cases_eq x s)
      where
        by : (x ≡ s) ⊎ (x ≡ s → ⊥) → phase_of H E x ≡ cond (zero_units && picked x) Working (F.at x)
        by (inl z) = subst (λ x. phase_of H E x ≡ cond (zero_units && picked x) Working (F.at x)) (sym z)
            (now ∙ sym (cond-true _ _ _ (and_from zero_units (picked s) (eq-eqb (m.units k) 0 free) picked_s)))
        by (inr n) = others_same x n ∙ sym (cond-false _ _ _ (and_right zero_units (picked x) (only x n)))

    time_is : time ≡ (c.task s).latency
    time_is = ap takes slot.is_inst
        ∙ sym (ap (λ (k : Task). k.latency) (slot_is e.code t s slot.inside ∙ ap (slot_task e.code t s) slot.is_inst))

    by_own : AfterIssue H
    by_own = record {
      frame = E;
      behind = younger;
      frames = ap (λ (w : Window). w.frames) after_is;
      number = facts.number;
      code = facts.code;
      spots = facts.spots;
      stores = facts.stores;
      goes = facts.sealed ∙ runs;
      come = came_same e E facts.spots facts.stores facts.exit;
      generation = ap (λ (w : Window). slice_index w.generations E.number) after_is
          ∙ ap (λ n. slice_index m.window.generations n) facts.number;
      careful = ap (λ n. m.careful n) facts.number;
      phases = phases;
      other_units = λ t z. cond-false (t == k) time (m.units t) z;
      busy = λ l. absurd (let z = free in omega (arith, l, z));
      own = λ x z p. cond-true (k == k) time (m.units k) (same_number k) ∙ time_is
          ∙ ap (λ y. (c.task y).latency) (same x p);
    }
      where
        same : (x : ℕ) → picked x ≡ true → s ≡ x
        same x p = by (cases_eq x s)
          where
            by : (x ≡ s) ⊎ (x ≡ s → ⊥) → s ≡ x
            by (inl z) = sym z
            by (inr n) = absurd (both_ways (picked x) (only x n) p)

    turn_is : issue_chosen blocks budget k (Some (e.number, s)) m ≡ H
    turn_is = ap (λ l. with_frame e.number (λ x h. issued blocks budget k e.number s (takes (slot_of x.code s)) h) l
        m) i
        ∙ cond-true (e.number == e.number) _ _ (same_number e.number)

  -- the tile's issue ---------------------------------------------------------------------------------

  free_issues : m.units k ≡ 0
      → AfterIssue (issue_chosen blocks budget k (eldest (unit_ready blocks budget m k) slots m.window.frames) m)
  free_issues free = subst
      (λ l. AfterIssue (issue_chosen blocks budget k (eldest (unit_ready blocks budget m k) slots l) m))
      (sym i) (go (least test slots 0) refl)
    where
      tail : (q : Option (ℕ × ℕ)) → eldest (unit_ready blocks budget m k) slots younger ≡ q
          → Behind e m (issue_chosen blocks budget k q m)
      tail None z = behind_at e m younger i
      tail (Some q) z = issue_other blocks good budget e m m ok (behind_at e m younger i) k q
          (elder_other (unit_ready blocks budget m k) slots e.number younger q
          (younger_apart blocks budget m.window e younger ok i) z)

      none : least test slots 0 ≡ None → (x : ℕ) → picked x ≡ false
      none z x = false_from_ne_true (picked x) (λ p.
          let on = (and_parts (on_tile x) _ p).0 in
          let s : IsSlot x = ready_slot x (and_parts (ready F x) _ on).0 in
          let l : x < slot_tasks = s.inside in
          let w = slot_tasks_is in
          let n = slots_are in
          both_ways (on_tile x) (sym (test_is x (omega (arith, l, w)))
          ∙ none_least test slots z x (omega (arith, l, w, n))) on)

      go : (o : Option ℕ) → least test slots 0 ≡ o
          → AfterIssue (issue_chosen blocks budget k
          (found_in e o (eldest (unit_ready blocks budget m k) slots younger)) m)
      go None z = unchanged _ (tail (eldest (unit_ready blocks budget m k) slots younger) refl)
          (λ t z. issue_units blocks budget k (eldest (unit_ready blocks budget m k) slots younger) m t z)
          (λ l. absurd (omega (arith, l, free)))
          (λ x. and_right (m.units k == 0) (picked x) (none z x))
      go (Some s) z = subst AfterIssue (sym (turn_is free s (least_of s z))) (by_own free s (least_of s z))
        where
          least_of : (s : ℕ) → least test slots 0 ≡ Some s → IsLeast test 128 s
          least_of s z = subst (λ n. IsLeast test n s) slots_are (is_least test slots s z)

  -- a tile's issue leads the oldest frame to where the lane's does
  pub after_issue : AfterIssue (issues blocks budget k m)
  after_issue = cond_both (m.units k == 0)
      (issue_chosen blocks budget k (eldest (unit_ready blocks budget m k) slots m.window.frames) m) m AfterIssue
      (λ z. free_issues (eqb-true (m.units k) 0 z))
      (λ z. unchanged m (behind_at e m younger i) (λ t z. refl) (λ l. refl)
      (λ x. and_left (m.units k == 0) (picked x) z))
