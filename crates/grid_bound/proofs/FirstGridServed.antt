-- A cycle in which a grid comes first at each station serves its oldest frame,
-- or its next block waits for the fetch unit.
use Rattle.std.proofs.Common.{◌≡◌, ℕ, zero, suc, ◌-◌, ◌^◌, ◌<◌, ◌≤◌, ◌⊎◌, inl, inr, Bool, true, false}
use Rattle.std.proofs.Common.{List, [], ◌∷◌}
use Rattle.std.proofs.Common.{length, Option, Some, None, slice_get, slice_index, refl, sym, ap, ◌∙◌, subst}
use Rattle.trips_isa.specs.declared.block.Block.{Block}
use Rattle.trips_isa.specs.declared.run.Stepped.TheVariants as stepped
use Rattle.trips_isa.specs.Machine.{State}
use Rattle.trips_isa.specs.Rule.{Answer}
use Rattle.commit_flush_spec.specs.Frames.{Frame, fresh}
use Rattle.commit_flush_spec.specs.Ends.{complete}
use Rattle.commit_flush_spec.specs.Older.{committed}
use Rattle.commit_flush_spec.specs.inside.Invariant.{AllGood, FrameOk}
use Rattle.commit_flush_spec.specs.inside.Laws.{WindowOk}
use Rattle.grid_cycle_spec.specs.Grid.{Grid, Fetching, numbers_of}
use Rattle.grid_cycle_spec.specs.Costs.{size}
use Rattle.grid_cycle_spec.specs.Ends.{ends}
use Rattle.grid_cycle_spec.specs.Fetches.{fetch_on, fetch_ends, begins, fetches, stands}
use Rattle.grid_bound.specs.inside.Course.{Course}
use Rattle.grid_bound.specs.inside.Lane.{Stage, Running, is_complete}
use Rattle.grid_bound.specs.inside.Lane as lane
use Rattle.grid_bound.specs.inside.Sending.{fetching, reading}
use Rattle.grid_bound.specs.inside.Answering.{TileAnswers, TilesAnswer}
use Rattle.grid_bound.specs.inside.Turning.{turning, own_units}
use Rattle.grid_bound.specs.inside.Moving.{moving}
use Rattle.grid_bound.specs.inside.Serving.{Serves, Served}
use Rattle.grid_bound.specs.inside.Blocks.{course_of}
use Rattle.grid_bound.specs.inside.Seen.{front_of, fetch_of, stage_of}
use Rattle.grid_bound.proofs.Seen.{complete_seen}
use Rattle.grid_bound.proofs.Sizes.{tasks_are}
use Rattle.grid_bound.specs.inside.Behind.{Behind}
use Rattle.grid_bound.specs.inside.Shows.{Commits, IsDue, Traps}
use Rattle.grid_bound.specs.inside.CycleRule.{CycleRule}
use Rattle.grid_bound.specs.inside.Held.{ServedHeld, Waits}
use Rattle.grid_bound.specs.inside.Lanes.{lane_in}
use Rattle.grid_bound.specs.inside.ServedFirst.{FetchesFirst, ServedFirst}
use Rattle.grid_bound.proofs.Steady.{Onward, steady}
use Rattle.grid_bound.proofs.OldestEnds.{oldest_ok, ends_open, ends_seal, ends_complete, unsealed}
use Rattle.grid_bound.proofs.Fronts.{front_behind}
use Rattle.grid_bound.proofs.OldestFetches.{Comes, begins_begun, fetches_behind, fetches_come}
use Rattle.grid_bound.proofs.FrameTable.{told, table_good}
use Rattle.grid_bound.proofs.UnitsKept.{ends_kept, fetches_kept}
use Rattle.grid_bound.proofs.FromBanksOn.{stage_in, stage_held, stage_empty}
use Rattle.grid_bound.proofs.FromBanksOn as rest
use Rattle.grid_bound.proofs.FirstGridEnds.{idle_ends, seals_onward, fetches_on, ends_alike}

module _ {W : Type 0} (blocks : List Block) (good : AllGood blocks) (budget held_from held_to : ℕ) (g h : Grid W)
    (ok : WindowOk blocks budget g.window) (went : g.window.over ≡ stepped.Went)
    (room : length g.window.state.trace < budget) (first : ServedFirst blocks budget held_from held_to g h)
    (rule : (e : (ends blocks budget g).window.over ≡ stepped.Went) → CycleRule blocks budget (first.acts e).fetched)
    (beyond : (t : ℕ) → 16 ≤ t → g.units t ≡ 0) (b : Block)
    (is_code : slice_get blocks g.window.state.next ≡ Some b) (sizes : ℕ → ℕ)
    (is_size : size b ≡ sizes (length g.window.state.trace))
    (due : g.window.frames ≡ [] → IsDue g g.fetching × (slice_index g.window.generations 0 < 2 ^ 64 - 1)) where
  abbrev E : Grid W
  E = ends blocks budget g

  abbrev t : ℕ → Answer
  t = told (committed g.window.state) (fresh 0 g.window.state.next b)

  -- the course of a frame that the fetch fills
  abbrev c : Course
  c = course_of b t

  state : h.window.state ≡ E.window.state
  state = (ends_alike blocks good budget held_from held_to g h first).0

  over : h.window.over ≡ E.window.over
  over = (ends_alike blocks good budget held_from held_to g h first).1

  -- parts (2) to (6), where part (1) has committed nothing
  module _ (on : Onward blocks budget g.window E.window) where
    abbrev pub went_e : E.window.over ≡ stepped.Went
    went_e = on.over ∙ went

    abbrev H : Grid W
    H = (first.acts (on.over ∙ went)).fetched

    rule_h : CycleRule blocks budget H
    rule_h = rule went_e

    to_h : Onward blocks budget E.window H.window
    to_h = fetches_on blocks good budget held_from held_to E H (first.acts went_e).is_fetched

    ok_h : WindowOk blocks budget H.window
    ok_h = to_h.ok (on.ok ok)

    went_h : H.window.over ≡ stepped.Went
    went_h = to_h.over ∙ went_e

    state_h : H.window.state ≡ g.window.state
    state_h = to_h.state ∙ on.state

    -- part (2) leaves the units, in whatever way it goes
    units_of : FetchesFirst blocks budget held_from held_to E H → H.units ≡ E.units
    units_of (inl e) = ap (λ (q : Grid W). q.units) e ∙ fetches_kept blocks budget E
    units_of (inr e) = ap (λ (q : Grid W). q.units) e.0
        ∙ sym (ap (λ (q : Grid W). q.units) (begins_begun blocks budget (fetch_ends blocks budget E.fetching E)))
        ∙ fetches_kept blocks budget E

    units_h : H.units ≡ g.units
    units_h = units_of (first.acts went_e).is_fetched ∙ ends_kept blocks budget g

    beyond_h : (t : ℕ) → 16 ≤ t → H.units t ≡ 0
    beyond_h t l = ap (λ (u : ℕ → ℕ). u t) units_h ∙ beyond t l

    serves : (generation : ℕ) (s : Stage) → fetching generation c (stage_in g) ≡ s
        → rest.Rest blocks good budget H h ok_h went_h rule_h beyond_h (first.acts went_e).rest s
        → Serves sizes (lane_in g) (lane_in h)
    serves generation s e r = record {
      generation = generation;
      filled = c;
      is_filled = tasks_are b t (good g.window.state.next b is_code).fits ∙ is_size;
      good = table_good blocks good (committed g.window.state) (fresh 0 g.window.state.next b) is_code;
      answered = r.answered;
      answers = subst (λ (q : Stage). TilesAnswer 4 (reading q) r.answered) (sym e) r.answers;
      hold = r.hold;
      holds = r.holds;
      units = rest.units_few blocks good budget H h ok_h went_h rule_h beyond_h (first.acts went_e).rest;
      own = subst (λ (u : ℕ → ℕ). (t : ℕ) → 1 ≤ own_units u r.answered t → h.units t ≡ own_units u r.answered t)
          units_h r.own;
      stage = r.stage ∙ ap (λ (u : ℕ → ℕ). moving r.hold (turning u r.answered)) units_h;
      done = ap (λ (q : State). length q.trace) (state ∙ on.state);
    }

    -- an oldest frame stays as it is in part (2)
    behind : (f : Frame) (fs : List Frame) → E.window.frames ≡ f ∷ fs → Behind f E H
    behind f fs i = by (first.acts went_e).is_fetched
      where
        all : Behind f E (fetches blocks budget E)
        all = fetches_behind blocks budget E f fs i

        short : Behind f E (fetch_ends blocks budget E.fetching E)
        short =
            let x = subst (Behind f E) (begins_begun blocks budget (fetch_ends blocks budget E.fetching E)) all in
            record {
              younger = x.younger;
              frames = x.frames;
              state = x.state;
              over = x.over;
              generation = x.generation;
              parcels = x.parcels;
              asked = x.asked;
              works = x.works;
              careful = x.careful;
            }

        by : FetchesFirst blocks budget held_from held_to E H → Behind f E H
        by (inl e) = subst (Behind f E) (sym e) all
        by (inr e) = subst (Behind f E) (sym e.0) short

  -- a frame is in flight ---------------------------------------------------------------------------

  module _ (f : Frame) (fs : List Frame) (i : g.window.frames ≡ f ∷ fs) where
    own_ok : FrameOk blocks (committed g.window.state) f
    own_ok = oldest_ok blocks budget g.window f fs ok i

    same_complete : is_complete (stage_in g) ≡ complete f
    same_complete = ap is_complete (stage_held g f fs i)
        ∙ complete_seen g f (told (committed g.window.state) f) (good f.block f.code own_ok.code).fits.writes

    commits : complete f ≡ true → Traps h ⊎ Served sizes (lane_in g) (lane_in h)
    commits e = by (ends_complete blocks budget g f fs i ok went e room)
      where
        by : Commits g E → Traps h ⊎ Served sizes (lane_in g) (lane_in h)
        by (inl z) = inl (z.0, over ∙ z.1)
        by (inr z) = inr (inl (same_complete ∙ e, ap (λ (q : State). length q.trace) state ∙ z))

    goes : complete f ≡ false → Served sizes (lane_in g) (lane_in h)
    goes e =
        let on : Onward blocks budget g.window E.window =
        subst (λ (q : Grid W). Onward blocks budget g.window q.window)
        (sym (ends_seal blocks budget g f fs i ok went e))
        (seals_onward blocks good budget (numbers_of g.window.frames) g) in
        let x : Behind f g E = ends_open blocks budget g f fs i ok went e in
        let y : Behind f E (H on) = behind on f x.younger x.frames in
        let same : Running (front_of (course_of f.code (told (committed (H on).window.state) f)) (H on) f)
        ≡ stage_in g =
        ap (λ (q : State). Running (front_of (course_of f.code (told (committed q) f)) (H on) f)) (state_h on)
        ∙ ap Running (front_behind (course_of f.code (told (committed g.window.state) f)) f E (H on) y
        ∙ front_behind (course_of f.code (told (committed g.window.state) f)) f g E x)
        ∙ sym (stage_held g f fs i) in
        inr (
          same_complete ∙ e,
          serves on 0 (Running (front_of (course_of f.code (told (committed (H on).window.state) f)) (H on) f))
              (ap (fetching 0 c) (sym same))
              (rest.goes_on blocks good budget (H on) h (ok_h on) (went_h on) (rule_h on) (beyond_h on)
              (first.acts (went_e on)).rest
              f y.younger y.frames (unsealed blocks budget g f fs i ok went e)),
        )

  -- none is ------------------------------------------------------------------------------------------

  fetch_open : (o : Option Fetching) → is_complete (fetch_of g o) ≡ false
  fetch_open None = refl
  fetch_open (Some x) = refl

  module _ (i : g.window.frames ≡ []) where
    still : E ≡ g
    still = idle_ends blocks budget g i

    pub idle : Onward blocks budget g.window E.window
    idle = subst (λ (q : Grid W). Onward blocks budget g.window q.window) (sym still)
        ((steady blocks budget good).same g)

    abbrev C : Grid W → Type 0
    C q = Comes blocks budget g i ok went (due i).1 b is_code t q (fetch_of g g.fetching)

    come : C (fetches blocks budget g)
    come = fetches_come blocks budget g i ok went (due i).1 b is_code t (due i).0

    abbrev x : Frame
    x = fresh 0 g.window.state.next b

    filled : (w : C (H idle)) → ((H idle).window.frames ≡ []) ⊎ ((H idle).window.frames ≡ x ∷ [])
        → Serves sizes (lane_in g) (lane_in h)
    filled w (inl none) = serves idle w.generation (fetch_of (H idle) (H idle).fetching)
        (ap (fetching w.generation c) (stage_empty g i) ∙ sym w.stage
        ∙ ap (λ l. stage_of c (H idle) l) none)
        (rest.waits blocks good budget (H idle) h (ok_h idle) (went_h idle) (rule_h idle) (beyond_h idle)
        (first.acts (went_e idle)).rest none)
    filled w (inr one) = serves idle w.generation
        (Running (front_of (course_of b (told (committed (H idle).window.state) x)) (H idle) x))
        (ap (fetching w.generation c) (stage_empty g i) ∙ sym w.stage
        ∙ ap (λ l. stage_of c (H idle) l) one
        ∙ ap (λ (q : State). Running (front_of (course_of b (told (committed q) x)) (H idle) x)) (sym (state_h idle)))
        (rest.goes_on blocks good budget (H idle) h (ok_h idle) (went_h idle) (rule_h idle) (beyond_h idle)
        (first.acts (went_e idle)).rest x [] one refl)

    served : C (H idle) → Served sizes (lane_in g) (lane_in h)
    served w = inr (ap is_complete (stage_empty g i) ∙ fetch_open g.fetching, filled w w.frames)

    -- the fetch of the program goes on, and it begins no other
    abbrev M : Grid W
    M = fetch_ends blocks budget g.fetching g

    module _ (y : Fetching) (e : g.fetching ≡ Some y) where
      abbrev S : Grid W → Type 0
      S q = Comes blocks budget g i ok went (due i).1 b is_code t q (fetch_of g (Some y))

      whole : S (begins blocks (fetch_ends blocks budget (Some y) g))
      whole = subst (λ o. Comes blocks budget g i ok went (due i).1 b is_code t
          (begins blocks (fetch_ends blocks budget o g)) (fetch_of g o)) e come

      back : S (fetch_ends blocks budget (Some y) g) → C M
      back k = subst (λ o. Comes blocks budget g i ok went (due i).1 b is_code t
          (fetch_ends blocks budget o g) (fetch_of g o)) (sym e) k

      no_fetch : (q : Grid W) (n : ℕ) (o : Option Fetching) (j : ℕ) → j ≡ 0
          → fetch_of q o ≡ fetching n c (lane.Fetching (Some j) y.careful) → ⊥
      no_fetch q n None j zero_j bad = let bad2 : fetch_of q None ≡ fetching n c (lane.Fetching (Some 0) y.careful) =
          bad ∙ ap (λ j. fetching n c (lane.Fetching (Some j) y.careful)) zero_j in cc
      no_fetch q n (Some v) j zero_j bad = let bad2 : fetch_of q (Some v)
          ≡ fetching n c (lane.Fetching (Some 0) y.careful) =
          bad ∙ ap (λ j. fetching n c (lane.Fetching (Some j) y.careful)) zero_j in cc

      full : (q : Grid W) → S (begins blocks q) → y.left ≡ 0 → S q
      full q k z = go k.frames
        where
          go : ((begins blocks q).window.frames ≡ []) ⊎ ((begins blocks q).window.frames ≡ x ∷ []) → S q
          go (inl none) = absurd (no_fetch (begins blocks q) k.generation (begins blocks q).fetching y.left z
              (sym (ap (λ l. stage_of c (begins blocks q) l) none) ∙ k.stage))
          go (inr one) =
              let frames : q.window.frames ≡ x ∷ [] =
              sym (ap (λ (v : Grid W). v.window.frames) (begins_begun blocks budget q)) ∙ one in
              record {
                generation = k.generation;
                stage = ap (λ l. stage_of c q l) frames
                    ∙ sym (ap (λ (v : Grid W). stage_of c v (x ∷ [])) (begins_begun blocks budget q))
                    ∙ sym (ap (λ l. stage_of c (begins blocks q) l) one) ∙ k.stage;
                frames = inr frames;
              }

      short : C M
      short = by y.left refl
        where
          by : (n : ℕ) → y.left ≡ n → C M
          by zero z = back (full (fetch_ends blocks budget (Some y) g) whole z)
          by (suc n) z = back (subst (λ j. S (fetch_on blocks budget j y g)) (sym z)
              (subst (λ j. S (begins blocks (fetch_on blocks budget j y g))) z whole))

    waits : g.fetching ≡ None → H idle ≡ M → held_to < held_from → Waits held_from held_to (lane_in g) (lane_in h)
    waits e j fewer =
        let same : H idle ≡ g = j ∙ ap (λ o. fetch_ends blocks budget o g) e in
        let none : (H idle).window.frames ≡ [] = ap (λ (q : Grid W). q.window.frames) same ∙ i in
        let s : fetch_of (H idle) (H idle).fetching ≡ fetch_of g None =
        ap (λ (q : Grid W). fetch_of q q.fetching) same ∙ ap (fetch_of g) e in
        let r = rest.waits blocks good budget (H idle) h (ok_h idle) (went_h idle) (rule_h idle) (beyond_h idle)
        (first.acts (went_e idle)).rest none in
        let n : r.answered ≡ fetch_of g None = tiles_wait 4 (fetch_of g None) r.answered refl
        (subst (λ q. TilesAnswer 4 (reading q) r.answered) s r.answers) in
        record {
          careful = stands g.standing g.window.state.next;
          before = stage_empty g i ∙ ap (fetch_of g) e;
          after = r.stage ∙ ap (λ q. moving r.hold (turning (H idle).units q)) n;
          fewer = fewer;
          units = rest.units_few blocks good budget (H idle) h (ok_h idle) (went_h idle) (rule_h idle) (beyond_h idle)
              (first.acts (went_e idle)).rest;
          done = ap (λ (q : State). length q.trace) (state ∙ idle.state);
        }
      where
        tiles_wait : (d : ℕ) (u v : Stage) → u ≡ fetch_of g None → TilesAnswer d u v → v ≡ u
        tiles_wait zero u v e a = a
        tiles_wait (suc d) u v e a =
            let m : (a.middle) ≡ u = tiles_wait d u a.middle e a.before in
            subst (λ q. TileAnswers d q v) (m ∙ e) a.after ∙ sym e

    empty : ServedHeld sizes held_from held_to (lane_in g) (lane_in h)
    empty = by (subst (λ (q : Grid W). FetchesFirst blocks budget held_from held_to q (H idle)) still
        (first.acts (went_e idle)).is_fetched)
      where
        other : (o : Option Fetching) → g.fetching ≡ o → H idle ≡ M → (g.fetching ≡ None → held_to < held_from)
            → ServedHeld sizes held_from held_to (lane_in g) (lane_in h)
        other None e j fewer = inr (waits e j (fewer e))
        other (Some y) e j fewer = inl (served (subst C (sym j) (short y e)))

        by : FetchesFirst blocks budget held_from held_to g (H idle)
            → ServedHeld sizes held_from held_to (lane_in g) (lane_in h)
        by (inl j) = inl (served (subst C (sym j) come))
        by (inr j) = other g.fetching refl j.0 (j.1 i)

  -- a cycle in which a grid comes first traps, or serves the block that commits next, or this block waits for
  -- the fetch unit
  pub serve_first : Traps h ⊎ ServedHeld sizes held_from held_to (lane_in g) (lane_in h)
  serve_first = by g.window.frames refl
    where
      wide : Traps h ⊎ Served sizes (lane_in g) (lane_in h)
          → Traps h ⊎ ServedHeld sizes held_from held_to (lane_in g) (lane_in h)
      wide (inl z) = inl z
      wide (inr z) = inr (inl z)

      open_or : (f : Frame) (fs : List Frame) → g.window.frames ≡ f ∷ fs → (q : Bool) → complete f ≡ q
          → Traps h ⊎ ServedHeld sizes held_from held_to (lane_in g) (lane_in h)
      open_or f fs i true e = wide (commits f fs i e)
      open_or f fs i false e = inr (inl (goes f fs i e))

      by : (l : List Frame) → g.window.frames ≡ l
          → Traps h ⊎ ServedHeld sizes held_from held_to (lane_in g) (lane_in h)
      by [] i = inr (empty i)
      by (f ∷ fs) i = open_or f fs i (complete f) refl
