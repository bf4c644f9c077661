-- Part (6), one place of the oldest frame: what has come there arrives.
use Rattle.std.proofs.Common.{◌≡◌, ◌≢◌, ℕ, suc, ◌*◌, ◌/◌, ◌%◌, ◌<◌, ◌≤◌, ◌==◌, ◌&&◌, ◌||◌, ◌⊎◌, inl, inr}
use Rattle.std.proofs.Common.{Bool, true, false, cond, nat_lt, List, ◌∷◌, Some}
use Rattle.std.proofs.Common.{slice_index, refl, sym, ap, ◌∙◌, arith}
use Rattle.std.proofs.lemmas.Bool.{cond-true, cond-false, and_from, and_right, cases_eq}
use Rattle.std.proofs.lemmas.Bool.{cases_lt, lt-ltb, le-ltb, eq-eqb, ne_eqb}
use Rattle.trips_isa.specs.declared.block.Inst.{Inst}
use Rattle.trips_isa.specs.declared.block.Block.{Block}
use Rattle.trips_isa.specs.declared.form.Form.TheVariants as form
use Rattle.trips_isa.specs.declared.run.Stepped.TheVariants as stepped
use Rattle.trips_isa.specs.Forms.{form_of}
use Rattle.trips_isa.specs.Rule.{Answer}
use Rattle.block_cases.specs.Orders.{slot_of}
use Rattle.operand_net.specs.declared.parcel.Stand.{Stand}
use Rattle.operand_net.specs.declared.parcel.Stand.TheVariants.{Nowhere}
use Rattle.operand_net.specs.Places.{put}
use Rattle.operand_net.specs.Tick.{ticked}
use Rattle.commit_flush_spec.specs.Frames.{Frame, at}
use Rattle.commit_flush_spec.specs.Older.{committed}
use Rattle.commit_flush_spec.specs.inside.Invariant.{AllGood, FrameOk}
use Rattle.commit_flush_spec.specs.inside.Laws.{WindowOk}
use Rattle.grid_cycle_spec.specs.Grid.{Grid}
use Rattle.grid_cycle_spec.specs.inside.Arrivals.{is_waiting}
use Rattle.grid_bound.specs.inside.Course.{Kind, Reading, Plain, Serving, Course, Task}
use Rattle.grid_bound.specs.inside.Lane.{any, Phase, Absent, Idle, Working, Asking, Standing, Sent, Front}
use Rattle.grid_bound.specs.inside.Lane.{first_parcel}
use Rattle.grid_bound.specs.inside.Lane.{second_parcel}
use Rattle.grid_bound.specs.inside.Moving.{row, free_at, landed}
use Rattle.grid_bound.specs.inside.Moving as moving
use Rattle.grid_bound.specs.inside.Blocks.{course_of}
use Rattle.grid_bound.specs.inside.Seen.{has_come, front_of}
use Rattle.grid_bound.specs.inside.MoveRule.{MoveRule}
use Rattle.grid_bound.proofs.Ahead.{same_number}
use Rattle.grid_bound.proofs.OldestEnds.{oldest_ok}
use Rattle.grid_bound.proofs.Fronts.{slot_far}
use Rattle.grid_bound.proofs.OldestLands.{due, due_is, not_taken, due_there, not_landed, one_more}

-- whether the first or the second token of a task lands at a spot, where its parcel stands so after the tick
abbrev pub land_first : Phase → Task → Stand → ℕ → Bool
land_first (Sent a b) w s q = landed a (moving.taken s) w.first q
land_first _ w s q = false

-- whether the second parcel of a task lands at a spot in this tick
abbrev pub land_second : Phase → Task → Stand → ℕ → Bool
land_second (Sent a b) w s q = landed b (moving.taken s) w.second q
land_second _ w s q = false

-- a slot that has sent its tokens, where its first or second place has a parcel
pub sent_first : (k : Kind) (f w d a : Bool) (p q : Stand) → first_parcel (slot_far k f w d a p q) ≢ Nowhere
    → (d ≡ true → k ≡ Serving → ⊥) → slot_far k f w d a p q ≡ Sent p q
sent_first k false w d a p q n h = absurd (n refl)
sent_first k true true d a p q n h = absurd (n refl)
sent_first Reading true false d a p q n h = refl
sent_first Plain true false d a p q n h = refl
sent_first Serving true false true a p q n h = absurd (h refl refl)
sent_first Serving true false false a p q n h = refl

-- a task with a second parcel has sent its tokens
pub sent_second : (k : Kind) (f w d a : Bool) (p q : Stand) → second_parcel (slot_far k f w d a p q) ≢ Nowhere
    → slot_far k f w d a p q ≡ Sent p q
sent_second k false w d a p q n = absurd (n refl)
sent_second k true true d a p q n = absurd (n refl)
sent_second Reading true false d a p q n = refl
sent_second Plain true false d a p q n = refl
sent_second Serving true false true true p q n = absurd (n refl)
sent_second Serving true false true false p q n = absurd (n refl)
sent_second Serving true false false a p q n = refl

-- a request is no token
pub no_landing : (f w a : Bool) (p q s : Stand) (z : Task) (n : ℕ)
    → land_first (slot_far Serving f w true a p q) z s n ≡ false
no_landing false w a p q s z n = refl
no_landing true true a p q s z n = refl
no_landing true false true p q s z n = refl
no_landing true false false p q s z n = refl

module _ {W : Type 0} (blocks : List Block) (good : AllGood blocks) (budget : ℕ) (t : ℕ → Answer) (f : Frame)
    (m : Grid W) (rule : MoveRule m f) (hold : ℕ → ℕ) where
  -- the course of the oldest frame's block
  abbrev pub c : Course
  c = course_of f.code t

  -- the front of the oldest frame before the tick
  abbrev pub F : Front
  F = front_of c m f

  -- where the parcel of a place stands after the tick
  abbrev pub T : ℕ → Stand
  T p = ticked (free_at F p (row F p)) (hold p) (row F p)

  -- and when the first k places have been looked at
  abbrev pub part : ℕ → ℕ → Stand
  part k p = cond (nat_lt p k) (moving.taken (T p)) (T p)

  -- the token of a place lands at a spot
  abbrev pub lands : ℕ → ℕ → Bool
  lands p q = cond (p % 2 == 0) (land_first (F.at (p / 2)) (c.task (p / 2)) (T p) q)
      (land_second (F.at (p / 2)) (c.task (p / 2)) (T p) q)

  -- the oldest frame when its first k places have been looked at
  pub record AtPlace (k : ℕ) (h : Grid W) : Type 0 where
    pub frame : Frame
    pub younger : List Frame
    pub frames : h.window.frames ≡ frame ∷ younger
    pub number : frame.number ≡ f.number
    pub code : frame.code ≡ f.code
    pub stores : frame.stores ≡ f.stores
    pub runs : frame.sealed ≡ false
    pub fired : frame.fired ≡ f.fired
    pub reads : frame.reads ≡ f.reads
    pub requests : frame.requests ≡ f.requests
    pub works : h.works f.number ≡ m.works f.number
    pub generation : slice_index h.window.generations f.number ≡ slice_index m.window.generations f.number
    pub careful : h.careful f.number ≡ m.careful f.number
    pub parcels : (p : ℕ) → p < 320 → h.parcels f.number p ≡ part k p
    pub asked : (x : ℕ) (i : Inst) → slot_of f.code x ≡ Some i → is_waiting (at f.requests i.number) x ≡ true
        → h.asked f.number i.number ≡ (m.asked f.number i.number || (nat_lt (2 * x) k && due (T (2 * x))))
    pub places : (p : ℕ) → k ≤ p → at frame.places p ≡ at f.places p
    pub leaving : (x : ℕ) (i : Inst) → slot_of f.code x ≡ Some i → form_of i.op ≡ form.Branch → k ≤ 2 * x
        → m.parcels f.number (2 * x) ≢ Nowhere → frame.leaving ≡ Some x
    pub come : (q : ℕ) → has_come frame q ≡ (F.come q || any k (λ p. lands p q))

  -- a place at which nothing is due -----------------------------------------------------------------

  part_next : (k p : ℕ) → (p ≡ k → due (T p) ≡ false) → part (suc k) p ≡ part k p
  part_next k p h = by (cases_eq p k) (cases_lt p k)
    where
      by : (p ≡ k) ⊎ (p ≡ k → ⊥) → (p < k) ⊎ (k ≤ p) → part (suc k) p ≡ part k p
      by (inl z) _ = cond-true (nat_lt p (suc k)) _ _ (lt-ltb p (suc k) (omega (arith, z))) ∙ not_taken (T p) (h z)
          ∙ sym (cond-false (nat_lt p k) _ _ (le-ltb p k (omega (arith, z))))
      by (inr n) (inl l) = cond-true (nat_lt p (suc k)) _ _ (lt-ltb p (suc k) (omega (arith, l)))
          ∙ sym (cond-true (nat_lt p k) _ _ (lt-ltb p k l))
      by (inr n) (inr l) = cond-false (nat_lt p (suc k)) _ _ (le-ltb p (suc k) (omega (arith, l, n)))
          ∙ sym (cond-false (nat_lt p k) _ _ (le-ltb p k l))

  -- a request at another place has come by this one where it had come before it
  pub later_next : (k x : ℕ) → (2 * x ≡ k → due (T (2 * x)) ≡ false)
      → (nat_lt (2 * x) (suc k) && due (T (2 * x))) ≡ (nat_lt (2 * x) k && due (T (2 * x)))
  later_next k x h = by (cases_eq (2 * x) k) (cases_lt (2 * x) k)
    where
      by : (2 * x ≡ k) ⊎ (2 * x ≡ k → ⊥) → (2 * x < k) ⊎ (k ≤ 2 * x)
          → (nat_lt (2 * x) (suc k) && due (T (2 * x))) ≡ (nat_lt (2 * x) k && due (T (2 * x)))
      by (inl z) _ = and_right (nat_lt (2 * x) (suc k)) _ (h z) ∙ sym (and_right (nat_lt (2 * x) k) _ (h z))
      by (inr n) (inl l) = ap (λ b. b && due (T (2 * x))) (lt-ltb (2 * x) (suc k) (omega (arith, l))
          ∙ sym (lt-ltb (2 * x) k l))
      by (inr n) (inr l) = ap (λ b. b && due (T (2 * x))) (le-ltb (2 * x) (suc k) (omega (arith, l, n))
          ∙ sym (le-ltb (2 * x) k l))

  lands_none : (p q : ℕ) → due (T p) ≡ false → lands p q ≡ false
  lands_none p q e = go (p % 2 == 0) refl
    where
      one : (w : Phase) → row F p ≡ first_parcel w → land_first w (c.task (p / 2)) (T p) q ≡ false
      one (Sent a b) z = ap (λ s. landed s (moving.taken (T p)) (c.task (p / 2)).first q) (sym z)
          ∙ not_landed (free_at F p (row F p)) (hold p) (row F p) (c.task (p / 2)).first q e
      one Absent z = refl
      one Idle z = refl
      one Working z = refl
      one (Asking s) z = refl
      one Standing z = refl

      two : (w : Phase) → row F p ≡ second_parcel w → land_second w (c.task (p / 2)) (T p) q ≡ false
      two (Sent a b) z = ap (λ s. landed s (moving.taken (T p)) (c.task (p / 2)).second q) (sym z)
          ∙ not_landed (free_at F p (row F p)) (hold p) (row F p) (c.task (p / 2)).second q e
      two Absent z = refl
      two Idle z = refl
      two Working z = refl
      two (Asking s) z = refl
      two Standing z = refl

      go : (b : Bool) → (p % 2 == 0) ≡ b → cond b (land_first (F.at (p / 2)) (c.task (p / 2)) (T p) q)
          (land_second (F.at (p / 2)) (c.task (p / 2)) (T p) q) ≡ false
      go true z = one (F.at (p / 2)) (cond-true (p % 2 == 0) _ _ z)
      go false z = two (F.at (p / 2)) (cond-false (p % 2 == 0) _ _ z)

  -- a place in which nothing is due leaves the oldest frame as it stands
  pub quiet : (k : ℕ) (h : Grid W) → AtPlace k h → due (T k) ≡ false → AtPlace (suc k) h
  quiet k h a e = record {
    frame = a.frame;
    younger = a.younger;
    frames = a.frames;
    number = a.number;
    code = a.code;
    stores = a.stores;
    runs = a.runs;
    fired = a.fired;
    reads = a.reads;
    requests = a.requests;
    works = a.works;
    generation = a.generation;
    careful = a.careful;
    parcels = λ p l. a.parcels p l ∙ sym (part_next k p (λ z. ap (λ p. due (T p)) z ∙ e));
    asked = λ x i s w. a.asked x i s w
        ∙ ap (λ b. m.asked f.number i.number || b) (sym (later_next k x (λ z. ap (λ p. due (T p)) z ∙ e)));
    places = λ p l. a.places p (omega (arith, l));
    leaving = λ x i s b l. a.leaving x i s b (omega (arith, l));
    come = λ q. a.come q ∙ ap (λ b. F.come q || (b || any k (λ p. lands p q))) (sym (lands_none k q e));
  }

  -- what has come in a place ------------------------------------------------------------------------

  module _ (k : ℕ) (small : k < 320) (h : Grid W) (a : AtPlace k h) (ok : WindowOk blocks budget h.window)
      (went : h.window.over ≡ stepped.Went) (now : due (T k) ≡ true) where
    abbrev e : Frame
    e = a.frame

    -- it was there before
    pub there : m.parcels f.number k ≢ Nowhere
    there z = due_there (free_at F k (row F k)) (hold k) (row F k) now (sym (rule.rows k small) ∙ z)

    -- in a place in which something is due a parcel stands
    pub row_there : row F k ≢ Nowhere
    row_there z = there (rule.rows k small ∙ z)

    -- the grid with the place emptied
    abbrev pub M : Grid W
    M = record h { parcels = put h.parcels f.number k Nowhere }

    -- the place is empty from now on
    taken_now : (p : ℕ) → p < 320 → M.parcels f.number p ≡ part (suc k) p
    taken_now p l = by (cases_eq p k)
      where
        by : (p ≡ k) ⊎ (p ≡ k → ⊥) → M.parcels f.number p ≡ part (suc k) p
        by (inl z) =
            cond-true (f.number == f.number && p == k) _ _
            (and_from (f.number == f.number) (p == k) (same_number f.number) (eq-eqb p k z))
            ∙ sym (cond-true (nat_lt p (suc k)) _ _ (lt-ltb p (suc k) (omega (arith, z)))
            ∙ ap (λ p. moving.taken (T p)) z ∙ ap moving.taken (due_is (T k) now).1)
        by (inr n) =
            cond-false (f.number == f.number && p == k) _ _ (and_right (f.number == f.number) (p == k) (ne_eqb p k n))
            ∙ a.parcels p l ∙ sym (part_next k p (λ z. absurd (n z)))

    -- the frame and the grid when it has arrived
    pub record Arrived (E : Frame) (H : Grid W) : Type 0 where
      pub behind : List Frame
      pub frames : H.window.frames ≡ E ∷ behind
      pub number : E.number ≡ e.number
      pub code : E.code ≡ e.code
      pub stores : E.stores ≡ e.stores
      pub sealed : E.sealed ≡ e.sealed
      pub fired : E.fired ≡ e.fired
      pub reads : E.reads ≡ e.reads
      pub requests : E.requests ≡ e.requests
      pub works : H.works f.number ≡ h.works f.number
      pub generation : slice_index H.window.generations f.number ≡ slice_index h.window.generations f.number
      pub careful : H.careful f.number ≡ h.careful f.number
      pub parcels : H.parcels f.number ≡ M.parcels f.number
      pub asked : (x : ℕ) (i : Inst) → slot_of f.code x ≡ Some i → is_waiting (at f.requests i.number) x ≡ true
          → H.asked f.number i.number ≡ (m.asked f.number i.number || (nat_lt (2 * x) (suc k) && due (T (2 * x))))
      pub places : (p : ℕ) → suc k ≤ p → at E.places p ≡ at e.places p
      pub leaving : (x : ℕ) (i : Inst) → slot_of f.code x ≡ Some i → form_of i.op ≡ form.Branch → suc k ≤ 2 * x
          → m.parcels f.number (2 * x) ≢ Nowhere → e.leaving ≡ Some x → E.leaving ≡ Some x
      pub come : (q : ℕ) → has_come E q ≡ (has_come e q || lands k q)

    -- where what is due in a place has arrived, the oldest frame stands right behind this place
    pub next : (E : Frame) (H : Grid W) → Arrived E H → AtPlace (suc k) H
    next E H b = record {
      frame = E;
      younger = b.behind;
      frames = b.frames;
      number = b.number ∙ a.number;
      code = b.code ∙ a.code;
      stores = b.stores ∙ a.stores;
      runs = b.sealed ∙ a.runs;
      fired = b.fired ∙ a.fired;
      reads = b.reads ∙ a.reads;
      requests = b.requests ∙ a.requests;
      works = b.works ∙ a.works;
      generation = b.generation ∙ a.generation;
      careful = b.careful ∙ a.careful;
      parcels = λ p l. ap (λ r. r p) b.parcels ∙ taken_now p l;
      asked = b.asked;
      places = λ p l. b.places p l ∙ a.places p (omega (arith, l));
      leaving = λ x i s w l n. b.leaving x i s w l n (a.leaving x i s w (omega (arith, l)) n);
      come = λ q. b.come q ∙ one_more (F.come q) (any k (λ p. lands p q)) (lands k q) (has_come e q) (a.come q);
    }

    -- requests that are not this one are as they were
    pub asked_same : ((x : ℕ) (i : Inst) → slot_of f.code x ≡ Some i → is_waiting (at f.requests i.number) x ≡ true
        → 2 * x ≡ k → ⊥)
        → (x : ℕ) (i : Inst) → slot_of f.code x ≡ Some i → is_waiting (at f.requests i.number) x ≡ true
        → h.asked f.number i.number ≡ (m.asked f.number i.number || (nat_lt (2 * x) (suc k) && due (T (2 * x))))
    asked_same none x i s w = a.asked x i s w
        ∙ ap (λ b. m.asked f.number i.number || b) (sym (later_next k x (λ z. absurd (none x i s w z))))

    -- the oldest frame is good
    pub own_ok : FrameOk blocks (committed h.window.state) e
    own_ok = oldest_ok blocks budget h.window e a.younger ok a.frames
