-- Part (5), results: a unit whose time is over gives the result that it has of the oldest frame.
use Rattle.std.proofs.Common.{◌≡◌, ◌≢◌, ℕ, suc, ◌*◌, ◌-◌, ◌<◌, ◌==◌, ◌&&◌, Bool, true}
use Rattle.std.proofs.Common.{false, cond, nat_lt, List, ◌∷◌, length, Option, Some}
use Rattle.std.proofs.Common.{None, is_some, slice_get, slice_index}
use Rattle.std.proofs.Common.{slice_index_or, refl, sym, ap, ap₂, ◌∙◌, arith}
use Rattle.std.proofs.lemmas.Bool.{cond-true, cond-false, and_from, and_right}
use Rattle.std.proofs.lemmas.Bool.{ltb-true, eq-eqb, ne_eqb}
use Rattle.trips_isa.specs.declared.block.Inst.{Inst}
use Rattle.trips_isa.specs.declared.block.ReadSlot.{ReadSlot}
use Rattle.trips_isa.specs.declared.block.Block.{Block}
use Rattle.trips_isa.specs.declared.form.Form.{Form}
use Rattle.trips_isa.specs.declared.form.Form.TheVariants as form
use Rattle.trips_isa.specs.Forms.{form_of}
use Rattle.trips_isa.specs.Fits.{FitsForm}
use Rattle.trips_isa.specs.Places.{place_at, first_place}
use Rattle.trips_isa.specs.Rule.{Answer}
use Rattle.trips_isa.specs.Blocks.{at_place}
use Rattle.block_cases.specs.Orders.{slot_of}
use Rattle.operand_net.specs.declared.parcel.Stand.{Stand}
use Rattle.operand_net.specs.declared.parcel.Stand.TheVariants.{Nowhere}
use Rattle.commit_flush_spec.specs.Frames.{Frame, at, target, is_target}
use Rattle.commit_flush_spec.specs.Older.{committed}
use Rattle.commit_flush_spec.specs.Window.{Window}
use Rattle.commit_flush_spec.specs.inside.Invariant.{AllGood, FrameOk}
use Rattle.commit_flush_spec.specs.inside.Laws.{WindowOk}
use Rattle.commit_flush_spec.proofs.Stored.{inst_fits}
use Rattle.commit_flush_spec.proofs.Tokens.{inst_in}
use Rattle.grid_cycle_spec.specs.Stations.{control, data_node, tile_node, tile_of}
use Rattle.grid_cycle_spec.specs.Grid.{Grid}
use Rattle.grid_cycle_spec.specs.inside.Arrivals.{is_waiting}
use Rattle.grid_cycle_spec.specs.Choosing.{slots}
use Rattle.grid_cycle_spec.specs.DataTiles.{tile_by}
use Rattle.grid_cycle_spec.specs.Sending.{enters, enter_both}
use Rattle.grid_cycle_spec.specs.Units.{result_enters, slot_enters, rests}
use Rattle.grid_bound.specs.inside.Course.{Kind, Course, Task, Plain, Serving}
use Rattle.grid_bound.specs.inside.Course as course
use Rattle.grid_bound.specs.inside.Lane.{Phase, Absent, Idle, Working, Asking, Standing, Sent, Front}
use Rattle.grid_bound.specs.inside.Sending.{parcel, launch, result, sent_from}
use Rattle.grid_bound.specs.inside.Turning.{finished}
use Rattle.grid_bound.specs.inside.Blocks.{slot_tasks, kind_of, first_of, slot_task, target_at, course_of}
use Rattle.grid_bound.specs.inside.Seen.{slot_phase, read_phase, phase_of, front_of}
use Rattle.grid_bound.proofs.Sizes.{slot_tasks_is, slot_is}
use Rattle.grid_bound.specs.inside.UnitRule.{ResultOf, InUnit, UnitRule}
use Rattle.grid_bound.proofs.Ahead.{same_number}
use Rattle.grid_bound.proofs.OldestEnds.{oldest_ok}
use Rattle.grid_bound.proofs.Fronts.{left_unit, slot_far, slot_phase_is, task_same, at_slot}
use Rattle.grid_bound.proofs.Entering.{born, one_entered, both_only, both_other, first_enters, second_enters}
use Rattle.grid_bound.proofs.Entering.{slot_targets}

-- a block has 128 slots
pub slots_are : slots ≡ 128
unfolding slots
slots_are = refl

-- a phase other than Working stays as units finish
pub finished_other : (n c : ℕ) (p : Phase) (k : Task) → p ≢ Working → finished n p c k ≡ p
finished_other n c Absent k w = refl
finished_other n c Idle k w = refl
finished_other n c Working k w = absurd (w refl)
finished_other n c (Asking p) k w = refl
finished_other n c Standing k w = refl
finished_other n c (Sent p q) k w = refl

-- so does each while its unit is busy
pub finished_busy : (n c : ℕ) (p : Phase) (k : Task) → finished n p (suc c) k ≡ p
finished_busy n c Absent k = refl
finished_busy n c Idle k = refl
finished_busy n c Working k = refl
finished_busy n c (Asking p) k = refl
finished_busy n c Standing k = refl
finished_busy n c (Sent p q) k = refl

waiting_here : (o : Option ℕ) (s : ℕ) → o ≡ Some s → is_waiting o s ≡ true
waiting_here o s e = ap (λ o. is_waiting o s) e ∙ same_number s

not_works : (k : Kind) (fired works waits asked : Bool) (p q : Stand)
    → slot_far k fired works waits asked p q ≡ Working → works ≡ true
not_works k true true waits asked p q e = refl
not_works k false works waits asked p q e = absurd (cc)
not_works course.Reading true false waits asked p q e = absurd (cc)
not_works Plain true false waits asked p q e = absurd (cc)
not_works Serving true false true true p q e = absurd (cc)
not_works Serving true false true false p q e = absurd (cc)
not_works Serving true false false asked p q e = absurd (cc)

-- what is Working is in a unit
pub working_is : {W : Type 0} (g : Grid W) (f : Frame) (x : ℕ) → phase_of g f x ≡ Working
    → (x < slot_tasks) × (g.works f.number x ≡ true)
working_is g f x e = by (nat_lt x slot_tasks) refl e
  where
    by : (b : Bool) → nat_lt x slot_tasks ≡ b
        → cond b (slot_phase g f x (slot_of f.code x))
        (read_phase g f (x - slot_tasks) (slice_get f.code.reads.items (x - slot_tasks))) ≡ Working
        → (x < slot_tasks) × (g.works f.number x ≡ true)
    by true z h = (ltb-true x slot_tasks z, slot (slot_of f.code x) h)
      where
        slot : (o : Option Inst) → slot_phase g f x o ≡ Working → g.works f.number x ≡ true
        slot None h = absurd (cc)
        slot (Some i) h = not_works (kind_of (form_of i.op)) (slice_index_or f.fired x false) (g.works f.number x)
            (is_waiting (at f.requests i.number) x) (g.asked f.number i.number) (g.parcels f.number (2 * x))
            (g.parcels f.number (suc (2 * x))) (sym (slot_phase_is g f x i) ∙ h)
    by false z h = absurd (read (slice_get f.code.reads.items (x - slot_tasks)) h)
      where
        flag : (b : Bool) (p q : Stand) → cond b (Sent p q) Idle ≡ Working → ⊥
        flag true p q h = cc
        flag false p q h = cc

        read : (o : Option ReadSlot) → read_phase g f (x - slot_tasks) o ≡ Working → ⊥
        read None h = cc
        read (Some r) h = flag (slice_index_or f.reads (x - slot_tasks) false) _ _ h

module _ {W : Type 0} (blocks : List Block) (good : AllGood blocks) (budget : ℕ) (h : Grid W) (e : Frame)
    (younger : List Frame) (i : h.window.frames ≡ e ∷ younger) (ok : WindowOk blocks budget h.window)
    (rule : UnitRule h e) (t : ℕ → Answer)
    (came : (s n : ℕ) → at e.requests n ≡ Some s → at e.spots s ≡ at_place e.code t s) where
  abbrev c : Course
  c = course_of e.code t

  abbrev F : Front
  F = front_of c h e

  own_ok : FrameOk blocks (committed h.window.state) e
  own_ok = oldest_ok blocks budget h.window e younger ok i

  -- where a slot is in a unit
  module _ (m : Grid W) (s : ℕ) (works : h.works e.number s ≡ true) (window : m.window ≡ h.window)
      (parcels : m.parcels ≡ h.parcels) (asked : m.asked ≡ h.asked) (still : m.works ≡ h.works) where
    abbrev in' : InUnit h e s
    in' = rule.working s works

    abbrev j : Inst
    j = in'.inst

    -- the slot of the result is below 128
    pub small : s < 128
    small = let l : s < length e.code.insts.items = inst_in e.code.insts.items s j in'.is_inst in
        let z : length e.code.insts.items ≡ 128 = (good e.block e.code own_ok.code).fits.insts in omega (arith, l, z)

    pub in_tasks : s < slot_tasks
    in_tasks = let z = slot_tasks_is in let l = small in omega (arith, l, z)

    -- the task of the slot is that of its instruction
    pub task_s : c.task s ≡ slot_task e.code t s (Some j)
    task_s = slot_is e.code t s in_tasks ∙ ap (slot_task e.code t s) in'.is_inst

    abbrev R : Grid W
    R = rests e.number s m

    abbrev H : Grid W
    H = slot_enters (slot_of e.code s) s e R

    -- only parcels change as the result enters
    form_only : (k : Form) (i : Inst)
        → result_enters k i s e R ≡ record R { parcels = (result_enters k i s e R).parcels }
    form_only form.Load i = refl
    form_only form.Store i = refl
    form_only form.Branch i = refl
    form_only form.General i = both_only (tile_node (tile_of s)) e R (2 * s)
    form_only form.Immediate i = both_only (tile_node (tile_of s)) e R (2 * s)
    form_only form.Constant i = both_only (tile_node (tile_of s)) e R (2 * s)

    -- only the parcels change as the result enters the mesh
    pub enters_only : H ≡ record R { parcels = H.parcels }
    enters_only = go (slot_of e.code s)
      where
        go : (o : Option Inst) → slot_enters o s e R ≡ record R { parcels = (slot_enters o s e R).parcels }
        go None = refl
        go (Some i) = form_only (form_of i.op) i

    -- the parcels of other tasks stay
    others_stay : (p : ℕ) → p ≢ 2 * s → p ≢ suc (2 * s) → H.parcels e.number p ≡ m.parcels e.number p
    others_stay p n k = go (slot_of e.code s)
      where
        one : (to : ℕ) → (enters e.number (2 * s) (tile_node (tile_of s)) to R).parcels e.number p
            ≡ m.parcels e.number p
        one to = one_entered (tile_node (tile_of s)) e R true (2 * s) to p
            ∙ cond-false (true && p == 2 * s) _ _ (ne_eqb p (2 * s) n)

        form_stays : (k : Form) (i : Inst) → (result_enters k i s e R).parcels e.number p ≡ m.parcels e.number p
        form_stays form.Load i = one (data_node (tile_by i (at e.spots s)))
        form_stays form.Store i = one (data_node (tile_by i (at e.spots s)))
        form_stays form.Branch i = one control
        form_stays form.General i = both_other (tile_node (tile_of s)) e R (2 * s) p n k
        form_stays form.Immediate i = both_other (tile_node (tile_of s)) e R (2 * s) p n k
        form_stays form.Constant i = both_other (tile_node (tile_of s)) e R (2 * s) p n k

        go : (o : Option Inst) → (slot_enters o s e R).parcels e.number p ≡ m.parcels e.number p
        go None = refl
        go (Some i) = form_stays (form_of i.op) i

    -- the slot is in its unit
    pub works_now : F.at s ≡ Working
    works_now = at_slot h e s in_tasks ∙ ap (slot_phase h e s) in'.is_inst ∙ slot_phase_is h e s j
        ∙ ap₂ (λ a w. slot_far (kind_of (form_of j.op)) a w (is_waiting (at e.requests j.number) s)
        (h.asked e.number j.number) (h.parcels e.number (2 * s)) (h.parcels e.number (suc (2 * s)))) in'.fired works

    -- the rest of the frame is as it was
    pub others_same : (x : ℕ) → x ≢ s → phase_of H e x ≡ phase_of h e x
    others_same x n = task_same h H e e x (record {
      code = refl;
      fired = refl;
      reads = λ l. refl;
      works = ap (λ (k : Grid W). k.works e.number x) enters_only
          ∙ cond-false ((e.number == e.number) && (x == s)) _ _
          (and_right (e.number == e.number) (x == s) (ne_eqb x s n))
          ∙ ap (λ w. w e.number x) still;
      waits = λ j k. refl;
      asked = λ j k w. ap (λ (k : Grid W). k.asked e.number j.number) enters_only
          ∙ ap (λ w. w e.number j.number) asked;
      first = others_stay (2 * x) (λ z. n (omega (arith, z))) (λ z. absurd (omega (arith, z)))
          ∙ ap (λ p. p e.number (2 * x)) parcels;
      second = others_stay (suc (2 * x)) (λ z. absurd (omega (arith, z))) (λ z. n (omega (arith, z)))
          ∙ ap (λ p. p e.number (suc (2 * x))) parcels;
    })

    born_is : born (tile_node (tile_of s)) e R ≡ F.generation
    born_is = ap (λ (w : Window). slice_index w.generations e.number) window

    first_free : m.parcels e.number (2 * s) ≡ Nowhere
    first_free = ap (λ p. p e.number (2 * s)) parcels ∙ in'.first

    second_free : m.parcels e.number (suc (2 * s)) ≡ Nowhere
    second_free = ap (λ p. p e.number (suc (2 * s))) parcels ∙ in'.second

    abbrev here : ℕ
    here = tile_node (tile_of s)

    -- one parcel that leaves the tile
    one_leaves : (to : ℕ) → (enters e.number (2 * s) here to R).parcels e.number (2 * s) ≡ parcel F.generation here to
    one_leaves to = one_entered here e R true (2 * s) to (2 * s)
        ∙ cond-true (true && 2 * s == 2 * s) _ _ (eq-eqb (2 * s) (2 * s) refl)
        ∙ ap (λ n. parcel n here to) born_is

    one_alone : (to : ℕ) → (enters e.number (2 * s) here to R).parcels e.number (suc (2 * s)) ≡ Nowhere
    one_alone to = one_entered here e R true (2 * s) to (suc (2 * s))
        ∙ cond-false (true && suc (2 * s) == 2 * s) _ _
        (ne_eqb (suc (2 * s)) (2 * s) (λ z. absurd (omega (arith, z))))
        ∙ second_free

    -- a request on its way
    asks_now : at e.requests j.number ≡ Some s → h.asked e.number j.number ≡ false
        → left_unit Serving (is_waiting (at e.requests j.number) s)
        ((enters e.number (2 * s) here (data_node (tile_by j (at e.spots s))) R).asked e.number j.number)
        ((enters e.number (2 * s) here (data_node (tile_by j (at e.spots s))) R).parcels e.number (2 * s))
        ((enters e.number (2 * s) here (data_node (tile_by j (at e.spots s))) R).parcels e.number (suc (2 * s)))
        ≡ Asking (parcel F.generation here (data_node (tile_by j (at_place e.code t s))))
    asks_now w a =
        ap₂ (λ w a. left_unit Serving w a
        ((enters e.number (2 * s) here (data_node (tile_by j (at e.spots s))) R).parcels e.number (2 * s))
        ((enters e.number (2 * s) here (data_node (tile_by j (at e.spots s))) R).parcels e.number (suc (2 * s))))
        (waiting_here (at e.requests j.number) s w) (ap (λ z. z e.number j.number) asked ∙ a)
        ∙ ap Asking (one_leaves (data_node (tile_by j (at e.spots s)))
        ∙ ap (λ v. parcel F.generation here (data_node (tile_by j v))) (came s j.number w))

    -- both tokens
    both_leave : (is_some (at e.places (2 * s)) ≡ is_target (target e.code (2 * s)))
        × (is_some (at e.places (suc (2 * s))) ≡ is_target (target e.code (suc (2 * s))))
        → Sent ((enter_both here e (2 * s) R).parcels e.number (2 * s))
        ((enter_both here e (2 * s) R).parcels e.number (suc (2 * s)))
        ≡ Sent (launch F.generation here (target_at e.code (first_place (form_of j.op) j.number j.first)))
        (launch F.generation here (target_at e.code (place_at j.second)))
    both_leave r =
        let to = slot_targets e.code s j small in'.is_inst in
        ap₂ (λ p q. Sent p q)
        (first_enters here e R (2 * s) r.0 first_free
        ∙ ap₂ (λ n q. launch n here (target_at e.code q)) born_is to.0)
        (second_enters here e R (2 * s) r.1 second_free
        ∙ ap₂ (λ n q. launch n here (target_at e.code q)) born_is to.1)

    -- what has left the unit, by the form of the instruction
    abbrev left_by : Form → Phase
    left_by k = left_unit (kind_of k) (is_waiting (at e.requests j.number) s)
        ((result_enters k j s e R).asked e.number j.number) ((result_enters k j s e R).parcels e.number (2 * s))
        ((result_enters k j s e R).parcels e.number (suc (2 * s)))

    abbrev K : Task
    K = slot_task e.code t s (Some j)

    -- plain instructions send both tokens
    plain : (k : Form) → form_of j.op ≡ k → first_place k j.number j.first ≡ place_at j.first
        → first_of e.code k j (data_node (tile_by j (at_place e.code t s))) ≡ target_at e.code (place_at j.first)
        → (is_some (at e.places (2 * s)) ≡ is_target (target e.code (2 * s)))
        × (is_some (at e.places (suc (2 * s))) ≡ is_target (target e.code (suc (2 * s))))
        → Sent ((enter_both here e (2 * s) R).parcels e.number (2 * s))
        ((enter_both here e (2 * s) R).parcels e.number (suc (2 * s))) ≡ sent_from F.generation here K
    plain k z a b r = both_leave r
        ∙ ap (λ q. Sent (launch F.generation here (target_at e.code q)) (launch F.generation here K.second))
        (ap (λ k. first_place k j.number j.first) z ∙ a)
        ∙ ap (λ q. Sent (launch F.generation here q) (launch F.generation here K.second))
        (sym b ∙ ap (λ k. first_of e.code k j (data_node (tile_by j (at_place e.code t s)))) (sym z))

    -- what leaves the unit is the lane's result
    result_is : (k : Form) → form_of j.op ≡ k → ResultOf (h.asked e.number) e k j s → FitsForm k j
        → left_by k ≡ result F.generation (kind_of k) K
    result_is form.Load z r fits = asks_now r.0 r.1
    result_is form.Store z r fits = asks_now r.0 r.1
    result_is form.Branch z r fits =
        ap₂ (λ p q. Sent p q) (one_leaves control) (one_alone control)
        ∙ ap₂ (λ p q. Sent p q)
        (ap (λ k. launch F.generation here (first_of e.code k j (data_node (tile_by j (at_place e.code t s)))))
        (sym z))
        (ap (λ o. launch F.generation here (target_at e.code (place_at o))) (sym (fits.0).second))
    result_is form.General z r fits = plain form.General z refl refl r
    result_is form.Immediate z r fits = plain form.Immediate z refl refl r
    result_is form.Constant z r fits = plain form.Constant z refl refl r

    abbrev H2 : Grid W
    H2 = result_enters (form_of j.op) j s e R

    -- the slot has given its result
    pub phase_s : phase_of H e s ≡ result F.generation (c.task s).kind (c.task s)
    phase_s =
        ap (λ o. phase_of (slot_enters o s e R) e s) in'.is_inst
        ∙ at_slot H2 e s in_tasks ∙ ap (slot_phase H2 e s) in'.is_inst ∙ slot_phase_is H2 e s j
        ∙ ap₂ (λ a w. slot_far (kind_of (form_of j.op)) a w (is_waiting (at e.requests j.number) s)
        (H2.asked e.number j.number) (H2.parcels e.number (2 * s)) (H2.parcels e.number (suc (2 * s)))) in'.fired off
        ∙ result_is (form_of j.op) refl in'.result
        (inst_fits e.code (good e.block e.code own_ok.code).fits s j in'.is_inst)
        ∙ sym (ap (λ (k : Task). result F.generation k.kind k) task_s)
      where
        off : H2.works e.number s ≡ false
        off = ap (λ (k : Grid W). k.works e.number s) (form_only (form_of j.op) j)
            ∙ cond-true ((e.number == e.number) && (s == s)) _ _
            (and_from (e.number == e.number) (s == s) (same_number e.number) (same_number s))
