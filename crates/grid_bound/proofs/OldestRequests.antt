-- A request of the oldest frame that a data tile has chosen: its slot, and what its answer leaves as it was.
use Rattle.std.proofs.Common.{◌≡◌, ◌≢◌, ℕ, suc, ◌*◌, ◌-◌, ◌<◌, true, false}
use Rattle.std.proofs.Common.{List, ◌∷◌, length, Some, None, slice_index_or, set, refl, sym, ap, ap₂, ◌∙◌}
use Rattle.std.proofs.Common.{arith}
use Rattle.trips_isa.specs.declared.block.Inst.{Inst}
use Rattle.trips_isa.specs.declared.block.Block.{Block}
use Rattle.trips_isa.specs.declared.form.Form.{Form}
use Rattle.trips_isa.specs.declared.form.Form.TheVariants as form
use Rattle.trips_isa.specs.Forms.{form_of}
use Rattle.trips_isa.specs.Rule.{Answer}
use Rattle.trips_isa.specs.Blocks.{at_place}
use Rattle.commit_flush_spec.specs.Frames.{Frame, at}
use Rattle.commit_flush_spec.specs.Older.{Older, committed}
use Rattle.commit_flush_spec.specs.Memory.{with_slot, with_inst, request}
use Rattle.commit_flush_spec.specs.inside.Invariant.{AllGood, FrameOk, Asked}
use Rattle.commit_flush_spec.specs.inside.Laws.{WindowOk}
use Rattle.commit_flush_spec.proofs.Stored.{number_small}
use Rattle.commit_flush_spec.proofs.Tokens.{inst_in}
use Rattle.commit_flush_spec.specs.inside.Observers.{has_number}
use Rattle.grid_cycle_spec.specs.Grid.{Grid}
use Rattle.grid_cycle_spec.specs.inside.Arrivals.{is_waiting}
use Rattle.grid_cycle_spec.specs.DataTiles.{tile_by, tile_for}
use Rattle.grid_bound.specs.inside.Course.{Serving, Course, Task}
use Rattle.grid_bound.specs.inside.Lane.{Standing, Front}
use Rattle.grid_bound.specs.inside.Sending.{station_of}
use Rattle.grid_bound.specs.inside.Blocks.{slot_tasks, kind_of, slot_task, course_of}
use Rattle.grid_bound.specs.inside.Seen.{slot_phase, phase_of, front_of}
use Rattle.grid_bound.proofs.Sizes.{slot_tasks_is, slot_is}
use Rattle.grid_bound.specs.inside.DataRule.{StandsFor, DataRule}
use Rattle.grid_bound.proofs.Ahead.{same_number}
use Rattle.grid_bound.proofs.OldestEnds.{oldest_ok}
use Rattle.grid_bound.proofs.Fronts.{slot_far, slot_phase_is, task_same, at_slot}
use Rattle.grid_bound.proofs.StandingRequests.{waiting_is, released}
use Rattle.grid_bound.proofs.FrameTable.{told, told_holds}
use Rattle.grid_bound.proofs.Waiting.{address_came}

-- a load or a store is a task that a data tile serves
pub serves : (k : Form) → has_number k ≡ true → kind_of k ≡ Serving
serves form.Load h = refl
serves form.Store h = refl
serves form.General h = absurd (cc)
serves form.Immediate h = absurd (cc)
serves form.Branch h = absurd (cc)
serves form.Constant h = absurd (cc)

module _ {W : Type 0} (blocks : List Block) (good : AllGood blocks) (budget : ℕ) (h : Grid W) (e : Frame)
    (younger : List Frame) (i : h.window.frames ≡ e ∷ younger) (ok : WindowOk blocks budget h.window)
    (rule : DataRule h e) (k : ℕ) (asked : h.asked e.number k ≡ true) where
  -- what the oldest frame sees: the committed state
  abbrev pub o : Older
  o = committed h.window.state

  -- the table of what the oldest frame sees
  abbrev pub t : ℕ → Answer
  t = told o e

  -- the course of its block by this table
  abbrev pub c : Course
  c = course_of e.code t

  -- its front
  abbrev pub F : Front
  F = front_of c h e

  -- the oldest frame is right
  pub own_ok : FrameOk blocks o e
  own_ok = oldest_ok blocks budget h.window e younger ok i

  -- what stands at the data tile for the number
  abbrev pub here : StandsFor h e k
  here = rule.standing k asked

  -- the slot of what is asked
  abbrev pub s : ℕ
  s = here.slot

  -- what is known of what waits with the number
  abbrev pub ask : Asked e k s
  ask = own_ok.asked k s here.waits

  -- the instruction of this slot
  abbrev pub j : Inst
  j = ask.inst

  -- its slot is below 128
  pub small : s < 128
  small = let l : s < length e.code.insts.items = inst_in e.code.insts.items s j ask.is_inst in
      let z : length e.code.insts.items ≡ 128 = (good e.block e.code own_ok.code).fits.insts in omega (arith, l, z)

  -- its slot is one of the tasks
  pub in_tasks : s < slot_tasks
  in_tasks = let z = slot_tasks_is in let l = small in omega (arith, l, z)

  -- its number is below 32
  pub number_fits : k < 32
  number_fits =
      let l : j.number < 32 = number_small e.code (good e.block e.code own_ok.code).fits s j ask.is_inst in
      let z : j.number ≡ k = ask.number in omega (arith, l, z)

  -- what waits with the number is this instruction in this slot
  pub request_is : request e k ≡ Some (s, j)
  request_is = ap (with_inst e.code) here.waits ∙ ap (with_slot s) ask.is_inst

  -- its form has a number
  pub numbered : has_number (form_of j.op) ≡ true
  numbered = rule.numbered k s here.waits j ask.is_inst

  -- the task of its slot is that of the instruction
  pub task_s : c.task s ≡ slot_task e.code t s (Some j)
  task_s = slot_is e.code t s in_tasks ∙ ap (slot_task e.code t s) ask.is_inst

  waits_s : is_waiting (at e.requests j.number) s ≡ true
  waits_s = ap (λ n. is_waiting (at e.requests n) s) ask.number ∙ ap (λ q. is_waiting q s) here.waits ∙ same_number s

  -- it stands in the lane
  pub stands : F.at s ≡ Standing
  stands = at_slot h e s in_tasks ∙ ap (slot_phase h e s) ask.is_inst ∙ slot_phase_is h e s j
      ∙ ap₂ (λ k f. slot_far k f (h.works e.number s) (is_waiting (at e.requests j.number) s)
      (h.asked e.number j.number) (h.parcels e.number (2 * s)) (h.parcels e.number (suc (2 * s))))
      (serves (form_of j.op) numbered) ask.fired
      ∙ ap₂ (λ w q. slot_far Serving true w q (h.asked e.number j.number) (h.parcels e.number (2 * s))
      (h.parcels e.number (suc (2 * s)))) here.left waits_s
      ∙ ap (λ a. slot_far Serving true false true a (h.parcels e.number (2 * s)) (h.parcels e.number (suc (2 * s))))
      (ap (h.asked e.number) ask.number ∙ asked)

  pub address : at e.spots s ≡ at_place e.code t s
  address = address_came blocks o e own_ok rule.numbered t (told_holds blocks good o e own_ok).spots s k here.waits

  -- its data tile is told by its address
  pub tile_is : tile_for e (request e k) ≡ tile_by j (at_place e.code t s)
  tile_is = ap (tile_for e) request_is ∙ ap (tile_by j) address

  -- the station at which its task is served is this data tile
  pub station_is : station_of F s ≡ tile_by j (at_place e.code t s)
  station_is = ap (λ (k : Task). k.station) task_s

  -- what its answer changes of the frame and of what is under way
  pub record Answers (X : Frame) (H : Grid W) : Type 0 where
    pub number : X.number ≡ e.number
    pub code : X.code ≡ e.code
    pub fired : X.fired ≡ e.fired
    pub reads : X.reads ≡ e.reads
    pub requests : X.requests ≡ set e.requests k None
    pub works : H.works e.number ≡ h.works e.number
    pub asks : (n : ℕ) → (n ≡ k → ⊥) → H.asked e.number n ≡ h.asked e.number n
    pub parcels : (p : ℕ) → p ≢ 2 * s → p ≢ suc (2 * s) → H.parcels e.number p ≡ h.parcels e.number p

  -- no other task
  pub others_same : (X : Frame) (H : Grid W) → Answers X H → (x : ℕ) → x ≢ s → phase_of H X x ≡ F.at x
  others_same X H a x n = task_same h H e X x (record {
    code = a.code;
    fired = ap (λ l. slice_index_or l x false) a.fired;
    reads = λ l. ap (λ l. slice_index_or l (x - slot_tasks) false) a.reads;
    works = ap (λ n. H.works n x) a.number ∙ ap (λ w. w x) a.works;
    waits = λ q z. ap (λ l. is_waiting (at l q.number) x) a.requests
        ∙ released e.requests k s x q.number here.waits n;
    asked = λ q z w. ap (λ n. H.asked n q.number) a.number ∙ a.asks q.number (λ y.
        let one : Some x ≡ Some s = sym (waiting_is (at e.requests q.number) x w) ∙ ap (at e.requests) y
        ∙ here.waits in n (let it : x ≡ s = cc in it));
    first = ap (λ n. H.parcels n (2 * x)) a.number
        ∙ a.parcels (2 * x) (λ z. n (omega (arith, z))) (λ z. absurd (omega (arith, z)));
    second = ap (λ n. H.parcels n (suc (2 * x))) a.number
        ∙ a.parcels (suc (2 * x)) (λ z. absurd (omega (arith, z))) (λ z. n (omega (arith, z)));
  })
