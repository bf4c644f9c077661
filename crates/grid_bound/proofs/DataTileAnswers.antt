-- Part (4), one data tile: it answers a request of the oldest frame where one waits for nothing.
use Rattle.std.proofs.Common.{◌≡◌, ℕ, ◌<◌, ◌≤◌, ◌==◌, ◌⊎◌, inl, inr, Bool, true}
use Rattle.std.proofs.Common.{false, cond, not, List, [], ◌∷◌, Option, Some, None, refl, sym, ap, ◌∙◌}
use Rattle.std.proofs.Common.{subst, arith}
use Rattle.std.proofs.lemmas.Bool.{cond-true, cond-false, and_from, and_parts, both_ways}
use Rattle.std.proofs.lemmas.Bool.{cases_Bool, or_left, or_right, eqb-true, false_from_ne_true}
use Rattle.trips_isa.specs.declared.block.Inst.{Inst}
use Rattle.trips_isa.specs.declared.block.Block.{Block}
use Rattle.trips_isa.specs.declared.form.Form.{Form}
use Rattle.trips_isa.specs.declared.form.Form.TheVariants as form
use Rattle.trips_isa.specs.declared.run.Stepped.TheVariants as stepped
use Rattle.trips_isa.specs.Forms.{form_of, is_load, is_store}
use Rattle.trips_isa.specs.Rule.{Answer}
use Rattle.trips_isa.specs.Blocks.{at_place}
use Rattle.trips_isa.specs.inside.Blocks.{Solves}
use Rattle.commit_flush_spec.specs.Frames.{Frame, at, numbers}
use Rattle.commit_flush_spec.specs.Older.{Older, committed}
use Rattle.commit_flush_spec.specs.Memory.{request, with_inst, with_slot}
use Rattle.commit_flush_spec.specs.inside.Invariant.{Below, AllGood, FrameOk}
use Rattle.commit_flush_spec.proofs.Frames.{seen}
use Rattle.commit_flush_spec.specs.inside.Laws.{WindowOk}
use Rattle.commit_flush_spec.specs.Window.{Window}
use Rattle.commit_flush_spec.proofs.Stored.{number_small}
use Rattle.commit_flush_spec.specs.inside.Observers.{has_number}
use Rattle.commit_flush_spec.proofs.Stuck.{numbers_are}
use Rattle.grid_cycle_spec.specs.Grid.{Grid}
use Rattle.grid_cycle_spec.specs.Choosing.{least, eldest, found_in, with_frame}
use Rattle.grid_cycle_spec.specs.DataTiles.{tile_by, tile_for, asks_store, all_resolved, must_wait, may_answer}
use Rattle.grid_cycle_spec.specs.DataTiles.{answers_request, answered_by, answer_chosen, data_turn}
use Rattle.grid_bound.specs.inside.Course.{Course, Task}
use Rattle.grid_bound.specs.inside.Lane.{any, all_come, Front, Stage, Running, is_standing, answerable}
use Rattle.grid_bound.specs.inside.Lane as lane
use Rattle.grid_bound.specs.inside.Sending.{station_of}
use Rattle.grid_bound.specs.inside.Answering.{answer_one, has_at, at_tile, Retold, TileAnswers}
use Rattle.grid_bound.specs.inside.Blocks.{room, numbers_in, slot_task, course_of}
use Rattle.grid_bound.specs.inside.Seen.{has_come, front_of, fetch_of}
use Rattle.grid_bound.proofs.Counting.{any_true}
use Rattle.grid_bound.proofs.Seen.{numbers_seen}
use Rattle.grid_bound.proofs.Sizes.{room_is, slot_is}
use Rattle.grid_bound.specs.inside.Behind.{Behind}
use Rattle.grid_bound.specs.inside.DataRule.{DataRule}
use Rattle.grid_bound.proofs.Ahead.{same_number, younger_apart}
use Rattle.grid_bound.proofs.Steady.{Onward, On, steady}
use Rattle.grid_cycle_spec.proofs.KeptByTurns.{answer_keeps}
use Rattle.grid_bound.proofs.Others.{behind_at, answer_other}
use Rattle.grid_bound.proofs.OldestEnds.{oldest_ok}
use Rattle.grid_bound.proofs.Fronts.{front_behind}
use Rattle.grid_bound.proofs.Choosing.{IsLeast, is_least, none_least, elder_other}
use Rattle.grid_bound.proofs.StandingRequests.{StandsAt, standing_is}
use Rattle.grid_bound.proofs.FrameTable.{told, told_solves, told_holds, told_good, retold}
use Rattle.grid_bound.proofs.Waiting.{address_came}
use Rattle.grid_bound.proofs.OldestRequests as asking
use Rattle.grid_bound.proofs.OldestLoads as loading
use Rattle.grid_bound.proofs.OldestStores as storing

-- what the lane sees of a window whose oldest frame has this number, or that was flushed by a store of that frame
pub data StageAt {W : Type 0} (o : Older) (f : Frame) (h : Grid W) (s : Stage) : Type 0 where
  Held : (x : Frame) (l : List Frame) → h.window.frames ≡ x ∷ l → x.number ≡ f.number → x.code ≡ f.code
      → x.sealed ≡ false → s ≡ Running (front_of (course_of x.code (told o x)) h x) → StageAt o f h s
  Emptied : h.window.frames ≡ [] → s ≡ lane.Fetching None true → fetch_of h h.fetching ≡ lane.Fetching None true
      → StageAt o f h s

-- a tile's turn as the lane has it
pub record Turned {W : Type 0} (o : Older) (f : Frame) (d : ℕ) (h : Grid W) (s : Stage) : Type 0 where
  pub stage : Stage
  pub answers : TileAnswers d s stage
  pub seen : StageAt o f h stage

numbered_or : (k : Form) → has_number k ≡ true → (k ≡ form.Load) ⊎ (k ≡ form.Store)
numbered_or form.Load h = inl refl
numbered_or form.Store h = inr refl
numbered_or form.General h = absurd (cc)
numbered_or form.Immediate h = absurd (cc)
numbered_or form.Branch h = absurd (cc)
numbered_or form.Constant h = absurd (cc)

module _ {W : Type 0} (blocks : List Block) (good : AllGood blocks) (budget : ℕ) (h : Grid W) (e : Frame)
    (younger : List Frame) (i : h.window.frames ≡ e ∷ younger) (ok : WindowOk blocks budget h.window)
    (rule : DataRule h e) (went : h.window.over ≡ stepped.Went) (runs : e.sealed ≡ false) (d : ℕ) where
  abbrev o : Older
  o = committed h.window.state

  abbrev t : ℕ → Answer
  t = told o e

  abbrev c : Course
  c = course_of e.code t

  abbrev F : Front
  F = front_of c h e

  own_ok : FrameOk blocks o e
  own_ok = oldest_ok blocks budget h.window e younger ok i

  abbrev test : ℕ → Bool
  test = answers_request h d e

  -- what waits for nothing in the lane may be answered
  may_answered : (x : ℕ) (a : StandsAt h e x) → all_come (has_come e) (c.task x).waits ≡ true
      → may_answer h e (a.inst).number ≡ true
  may_answered x a w =
      by (numbered_or (form_of (a.inst).op) (rule.numbered (a.inst).number x a.waits a.inst a.is_inst))
    where
      request_is : request e (a.inst).number ≡ Some (x, a.inst)
      request_is = ap (with_inst e.code) a.waits ∙ ap (with_slot x) a.is_inst

      task_x : c.task x ≡ slot_task e.code t x (Some a.inst)
      task_x = slot_is e.code t x a.inside ∙ ap (slot_task e.code t x) a.is_inst

      fits : (a.inst).number ≤ 32
      fits = let l : (a.inst).number < 32 =
          number_small e.code (good e.block e.code own_ok.code).fits x a.inst a.is_inst in omega (arith, l)

      by : (form_of (a.inst).op ≡ form.Load) ⊎ (form_of (a.inst).op ≡ form.Store)
          → may_answer h e (a.inst).number ≡ true
      by (inr z) = or_left _ _ (ap asks_store request_is ∙ ap is_store z)
      by (inl z) = or_right (asks_store (request e (a.inst).number)) _
          (or_right (not (must_wait h e (a.inst).number)) _
          (ap (all_resolved e.number (a.inst).number) i
          ∙ cond-true (e.number == e.number) _ _ (same_number e.number)
          ∙ sym (numbers_seen e (a.inst).number fits)
          ∙ sym (ap (all_come (has_come e)) (ap (λ (k : Task). k.waits) task_x
          ∙ ap (λ k. cond (is_load k) (numbers_in e.code.mask (a.inst).number) []) z)) ∙ w))

  -- where the tile answers none of the frame, the lane has none
  none_here : least test numbers 0 ≡ None → has_at d F ≡ false
  none_here z = false_from_ne_true (has_at d F) (λ w.
      let r : (x : ℕ) × (x < room) × (at_tile d F x ≡ true) = any_true room (at_tile d F) w in
      let p = and_parts (answerable F r.0) (station_of F r.0 == d) r.2 in
      let q = and_parts (is_standing (F.at r.0)) _ p.0 in
      let a : StandsAt h e r.0 = standing_is h e r.0 q.0 in
      let l : (a.inst).number < 32 =
      number_small e.code (good e.block e.code own_ok.code).fits r.0 a.inst a.is_inst in
      let n = numbers_are in
      let task_x : c.task r.0 ≡ slot_task e.code t r.0 (Some a.inst) =
      slot_is e.code t r.0 a.inside ∙ ap (slot_task e.code t r.0) a.is_inst in
      let tile : tile_for e (request e (a.inst).number) ≡ station_of F r.0 =
      ap (tile_for e) (ap (with_inst e.code) a.waits ∙ ap (with_slot r.0) a.is_inst)
      ∙ ap (tile_by a.inst) (address_came blocks o e own_ok rule.numbered t
      (told_holds blocks good o e own_ok).spots r.0 (a.inst).number a.waits)
      ∙ sym (ap (λ (k : Task). k.station) task_x) in
      both_ways (test (a.inst).number)
      (none_least test numbers z (a.inst).number (omega (arith, l, n)))
      (and_from (h.asked e.number (a.inst).number) _ a.asked
      (and_from (tile_for e (request e (a.inst).number) == d) _ (ap (λ m. m == d) tile ∙ p.1)
      (may_answered r.0 a q.1))))

  -- another frame, or none
  by_others : (m : Grid W) → Behind e h m → has_at d F ≡ false → Turned o e d m (Running F)
  by_others m b none = record {
    stage = Running F;
    answers = inl (none, refl);
    seen = Held e b.younger b.frames refl refl runs (ap Running (sym (front_behind c e h m b)));
  }

  -- a request of the oldest frame ------------------------------------------------------------------

  module _ (k : ℕ) (asked : h.asked e.number k ≡ true) (tile : tile_for e (request e k) ≡ d) where
    abbrev s : ℕ
    s = asking.s blocks good budget h e younger i ok rule k asked

    abbrev j : Inst
    j = asking.j blocks good budget h e younger i ok rule k asked

    inside : s < room
    inside = let l = asking.small blocks good budget h e younger i ok rule k asked in let r = room_is in
        omega (arith, l, r)

    stands : is_standing (F.at s) ≡ true
    stands = ap is_standing (asking.stands blocks good budget h e younger i ok rule k asked)

    own_tile : tile_by j (at_place e.code t s) ≡ d
    own_tile = sym (asking.tile_is blocks good budget h e younger i ok rule k asked) ∙ tile

    there : station_of F s ≡ d
    there = asking.station_is blocks good budget h e younger i ok rule k asked ∙ own_tile

    -- a frame X that is seen in h with the request answered, and the table of what it sees now
    answered_as : (m : Grid W) (X : Frame) (l : List Frame) → m.window.frames ≡ X ∷ l → X.number ≡ e.number
        → X.code ≡ e.code → X.spots ≡ e.spots → X.sealed ≡ false → m.window.state ≡ h.window.state
        → WindowOk blocks budget m.window → front_of (course_of X.code t) m X ≡ answer_one s F
        → Turned o e d m (Running F)
    answered_as m X l fr n code spots r state mok as_lane =
        let xok : FrameOk blocks o X = subst (λ z. FrameOk blocks (committed z) X) state
        (oldest_ok blocks budget m.window X l mok fr) in
        record {
          stage = Running (front_of (course_of X.code (told o X)) m X);
          answers = inr (record {
            request = s;
            inside = inside;
            stands = stands;
            there = there;
            comes_to = inl (record {
              front = front_of (course_of X.code (told o X)) m X;
              retold = subst (λ z. Retold z (front_of (course_of X.code (told o X)) m X)) as_lane
                  (retold m X r _ _ t (told o X)
                  (subst (λ b. Solves b (seen o e) t) (sym code) (told_solves blocks good o e own_ok))
                  (told_solves blocks good o X xok)
                  (λ q. subst (λ z. Below (at z q) (at_place X.code t q)) (sym spots)
                  (subst (λ b. Below (at e.spots q) (at_place b t q)) (sym code)
                  ((told_holds blocks good o e own_ok).spots q)))
                  (told_holds blocks good o X xok).spots (told_good blocks good o X xok));
              is_stage = refl;
            });
          });
          seen = Held X l fr n code r refl;
        }

    onward : Onward blocks budget h.window (answer_chosen blocks budget d (Some (e.number, k)) h).window
    onward = answer_keeps blocks budget (On blocks budget) (steady blocks budget good) tt d (e.number, k) tt h

    abbrev R : Grid W
    R = answered_by blocks budget d e.number k (Some (s, j)) h

    turn_is : answer_chosen blocks budget d (Some (e.number, k)) h ≡ R
    turn_is = ap (λ l. with_frame e.number (λ f h. answered_by blocks budget d e.number k (request f k) h) l h) i
        ∙ cond-true (e.number == e.number) _ _ (same_number e.number)
        ∙ ap (λ q. answered_by blocks budget d e.number k q h)
        (asking.request_is blocks good budget h e younger i ok rule k asked)

    on : Onward blocks budget h.window R.window
    on = subst (λ (m : Grid W). Onward blocks budget h.window m.window) turn_is onward

    by_load : form_of j.op ≡ form.Load → Turned o e d R (Running F)
    by_load kind = subst (λ m. Turned o e d m (Running F)) (sym now)
        (answered_as (loading.H blocks good budget h e younger i ok rule k asked went runs d kind own_tile)
        (loading.E blocks good budget h e younger i ok rule k asked went runs d kind own_tile) younger
        (ap (λ (m : Grid W). m.window.frames)
        (loading.only blocks good budget h e younger i ok rule k asked went runs d
        kind own_tile) ∙ ap (λ (w : Window). w.frames)
        (loading.after_is blocks good budget h e younger i ok rule k asked went runs d kind own_tile))
        refl refl refl runs (ap (λ (m : Grid W). m.window.state) (sym now) ∙ on.state)
        (subst (λ (m : Grid W). WindowOk blocks budget m.window) now (on.ok ok))
        (loading.front_is blocks good budget h e younger i ok rule k asked went runs d kind own_tile))
      where
        now : R ≡ loading.H blocks good budget h e younger i ok rule k asked went runs d kind own_tile
        now = cond-false (is_store (form_of j.op)) _ _ (ap is_store kind)
            ∙ loading.turn_is blocks good budget h e younger i ok rule k asked went runs d kind own_tile

    by_store : form_of j.op ≡ form.Store → Turned o e d R (Running F)
    by_store kind = subst (λ m. Turned o e d m (Running F)) (sym now)
        (go (cases_Bool (storing.wrong blocks good budget h e younger i ok rule k asked went runs kind)))
      where
        now : R ≡ storing.H blocks good budget h e younger i ok rule k asked went runs kind
        now = cond-true (is_store (form_of j.op)) _ _ (ap is_store kind)

        go : (storing.wrong blocks good budget h e younger i ok rule k asked went runs kind ≡ true)
            ⊎ (storing.wrong blocks good budget h e younger i ok rule k asked went runs kind ≡ false)
            → Turned o e d (storing.H blocks good budget h e younger i ok rule k asked went runs kind) (Running F)
        go (inl bad) = record {
          stage = lane.Fetching None true;
          answers = inr (record {
            request = s;
            inside = inside;
            stands = stands;
            there = there;
            comes_to = inr (
              storing.not_careful blocks good budget h e younger i ok rule k asked went runs kind bad,
              refl,
            );
          });
          seen = Emptied (storing.emptied blocks good budget h e younger i ok rule k asked went runs kind bad) refl
              (storing.fetch_is blocks good budget h e younger i ok rule k asked went runs kind bad);
        }
        go (inr fine) =
            let b = storing.stays blocks good budget h e younger i ok rule k asked went runs kind fine in
            answered_as (storing.H blocks good budget h e younger i ok rule k asked went runs kind)
            (storing.V blocks good budget h e younger i ok rule k asked went runs kind) b.younger b.frames
            refl refl refl runs (ap (λ (m : Grid W). m.window.state) (sym now) ∙ on.state)
            (subst (λ (m : Grid W). WindowOk blocks budget m.window) now (on.ok ok))
            (storing.front_is blocks good budget h e younger i ok rule k asked went runs kind fine)

    by_own : Turned o e d (answer_chosen blocks budget d (Some (e.number, k)) h) (Running F)
    by_own = subst (λ m. Turned o e d m (Running F)) (sym turn_is)
        (go (numbered_or (form_of j.op) (asking.numbered blocks good budget h e younger i ok rule k asked)))
      where
        go : (form_of j.op ≡ form.Load) ⊎ (form_of j.op ≡ form.Store) → Turned o e d R (Running F)
        go (inl z) = by_load z
        go (inr z) = by_store z

  -- the tile's turn ---------------------------------------------------------------------------------

  -- the turn of a data tile leads the oldest frame to a stage to which the lane's tile may come
  pub data_turns : Turned o e d (data_turn blocks budget d h) (Running F)
  data_turns = subst (λ l. Turned o e d (answer_chosen blocks budget d (eldest (answers_request h d) numbers l) h)
      (Running F))
      (sym i) (go (least test numbers 0) refl)
    where
      tail : (q : Option (ℕ × ℕ)) → eldest (answers_request h d) numbers younger ≡ q
          → Behind e h (answer_chosen blocks budget d q h)
      tail None z = behind_at e h younger i
      tail (Some q) z = answer_other blocks good budget e h h ok (behind_at e h younger i) d q
          (elder_other (answers_request h d) numbers e.number younger q
          (younger_apart blocks budget h.window e younger ok i) z)

      go : (q : Option ℕ) → least test numbers 0 ≡ q
          → Turned o e d (answer_chosen blocks budget d
          (found_in e q (eldest (answers_request h d) numbers younger)) h) (Running F)
      go None z = by_others _ (tail (eldest (answers_request h d) numbers younger) refl) (none_here z)
      go (Some k) z =
          let l : IsLeast test numbers k = is_least test numbers k z in
          let p = and_parts (h.asked e.number k) _ l.passes in
          let q = and_parts (tile_for e (request e k) == d) _ p.1 in
          by_own k p.0 (eqb-true (tile_for e (request e k)) d q.0)
