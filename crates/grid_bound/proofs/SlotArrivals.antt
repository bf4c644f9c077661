-- What is due in a place of a slot of the oldest frame arrives.
use Rattle.std.proofs.Common.{◌≡◌, ◌≢◌, ℕ, zero, suc, ◌*◌, ◌/◌, ◌%◌, ◌<◌, ◌==◌, ◌⊎◌, inl, inr}
use Rattle.std.proofs.Common.{Bool, true, false, cond, List, length, Option, Some, None}
use Rattle.std.proofs.Common.{slice_index_or, refl, sym, ap, ap₂, ◌∙◌, subst, arith}
use Rattle.std.proofs.lemmas.Bool.{cond-true, cond-false}
use Rattle.std.proofs.lemmas.Bool.{eq-eqb, ne_eqb, true≢false}
use Rattle.trips_isa.specs.declared.block.Inst.{Inst}
use Rattle.trips_isa.specs.declared.block.Block.{Block}
use Rattle.trips_isa.specs.declared.form.Form.{Form}
use Rattle.trips_isa.specs.declared.form.Form.TheVariants as form
use Rattle.trips_isa.specs.declared.run.Stepped.TheVariants as stepped
use Rattle.trips_isa.specs.Forms.{form_of}
use Rattle.trips_isa.specs.Places.{place_at, first_place}
use Rattle.trips_isa.specs.Rule.{Answer}
use Rattle.trips_isa.specs.Blocks.{at_place}
use Rattle.block_cases.specs.Orders.{slot_of}
use Rattle.operand_net.specs.declared.parcel.Stand.{Stand}
use Rattle.operand_net.specs.declared.parcel.Stand.TheVariants.{Nowhere, Away, Held}
use Rattle.operand_net.specs.Places.{put}
use Rattle.operand_net.specs.inside.Places.{come}
use Rattle.commit_flush_spec.specs.Frames.{Frame, at, target, is_target}
use Rattle.commit_flush_spec.specs.Older.{committed}
use Rattle.commit_flush_spec.specs.inside.Invariant.{AllGood, FrameOk}
use Rattle.commit_flush_spec.specs.inside.Laws.{WindowOk}
use Rattle.commit_flush_spec.proofs.Kept.{half_places}
use Rattle.commit_flush_spec.proofs.Tokens.{inst_in}
use Rattle.commit_flush_spec.specs.inside.Observers.{has_number}
use Rattle.grid_cycle_spec.specs.Stations.{data_node, home}
use Rattle.grid_cycle_spec.specs.DataTiles.{tile_by}
use Rattle.grid_cycle_spec.specs.Grid.{Grid}
use Rattle.grid_cycle_spec.specs.inside.Arrivals.{asks, delivers, is_waiting, slot_arrives, inst_arrives}
use Rattle.grid_bound.specs.inside.Course.{Kind, Plain, Serving, Course, Task}
use Rattle.grid_bound.specs.inside.Lane.{Phase, Absent, Sent, Front, first_parcel, second_parcel}
use Rattle.grid_bound.specs.inside.Answering.{hits}
use Rattle.grid_bound.specs.inside.Moving.{row, free_at}
use Rattle.grid_bound.specs.inside.Blocks.{slot_tasks, kind_of, first_of, slot_task, target_at, course_of}
use Rattle.grid_bound.specs.inside.Seen.{slot_phase, front_of}
use Rattle.grid_bound.proofs.Sizes.{slot_tasks_is, slot_is}
use Rattle.grid_bound.specs.inside.MoveRule.{IsToken, Travels, MoveRule}
use Rattle.grid_bound.proofs.OldestEnds.{oldest_ok}
use Rattle.grid_bound.proofs.Fronts.{slot_far, slot_phase_is, at_slot}
use Rattle.grid_bound.proofs.Entering.{slot_targets}
use Rattle.grid_bound.proofs.StandingRequests.{waiting_is}
use Rattle.grid_bound.proofs.OldestLands.{due, has_landed}
use Rattle.grid_bound.proofs.PlaceArrivals.{land_first, land_second, sent_first, sent_second, AtPlace}
use Rattle.grid_bound.proofs.PlaceArrivals.{Arrived, T, lands}
use Rattle.grid_bound.proofs.PlaceArrivals.{next}
use Rattle.grid_bound.proofs.DueArrivals.{token_arrives, request_arrives, branch_arrives}
use Rattle.grid_bound.proofs.PlaceArrivals as arriving

-- what is not due has not come
pub come_none : (n p : ℕ) (s : Stand) → due s ≡ false → come n p s ≡ None
come_none n p Nowhere e = refl
come_none n p (Away t a) e = refl
come_none n p (Held t zero) e = absurd (cc)
come_none n p (Held t (suc h)) e = refl

-- a target at a spot
pub hits_target : (b : Block) (p q : ℕ) → is_target p ≡ true → hits (target_at b p) q ≡ (p == q)
hits_target b p q e =
    ap (λ z. hits (cond z (Some (record { spot = p; there = home b p })) None) q) e

-- a request has no second parcel
no_second : (f w a : Bool) (p q : Stand) → second_parcel (slot_far Serving f w true a p q) ≡ Nowhere
no_second false w a p q = refl
no_second true true a p q = refl
no_second true false true p q = refl
no_second true false false p q = refl

module _ {W : Type 0} (blocks : List Block) (good : AllGood blocks) (budget : ℕ) (t : ℕ → Answer) (f : Frame)
    (m : Grid W) (rule : MoveRule m f) (hold : ℕ → ℕ) (k : ℕ) (small : k < 320) (h : Grid W)
    (a : AtPlace blocks good budget t f m rule hold k h) (ok : WindowOk blocks budget h.window)
    (went : h.window.over ≡ stepped.Went) where
  abbrev c : Course
  c = course_of f.code t

  abbrev F : Front
  F = front_of c m f

  abbrev e : Frame
  e = a.frame

  abbrev stand : Stand
  stand = T blocks good budget t f m rule hold k

  abbrev land : ℕ → Bool
  land q = lands blocks good budget t f m rule hold k q

  -- what lands is what the task gives there
  pub even_lands : (x : ℕ) → k ≡ 2 * x → (p q : Stand) → F.at x ≡ Sent p q → due stand ≡ true → (n : ℕ)
      → land n ≡ hits (c.task x).first n
  even_lands x is p q sent now n =
      let par : k % 2 ≡ 0 = omega (arith, is) in
      let half : k / 2 ≡ x = omega (arith, is) in
      let same : row F k ≡ p = cond-true (k % 2 == 0) _ _ (eq-eqb (k % 2) 0 par)
      ∙ ap (λ y. first_parcel (F.at y)) half ∙ ap first_parcel sent in
      cond-true (k % 2 == 0) _ _ (eq-eqb (k % 2) 0 par)
      ∙ ap (λ y. land_first (F.at y) (c.task y) stand n) half
      ∙ ap (λ w. land_first w (c.task x) stand n) (sent ∙ ap (λ p. Sent p q) (sym same))
      ∙ has_landed (free_at F k (row F k)) (hold k) (row F k) (c.task x).first n now

  -- what lands from an odd place is what the task gives second
  pub odd_lands : (x : ℕ) → k ≡ suc (2 * x) → (p q : Stand) → F.at x ≡ Sent p q → due stand ≡ true → (n : ℕ)
      → land n ≡ hits (c.task x).second n
  odd_lands x is p q sent now n =
      let par : k % 2 ≡ 1 = omega (arith, is) in
      let half : k / 2 ≡ x = omega (arith, is) in
      let off : (k % 2 == 0) ≡ false = ne_eqb (k % 2) 0 (λ z. absurd (omega (arith, par, z))) in
      let same : row F k ≡ q = cond-false (k % 2 == 0) _ _ off
      ∙ ap (λ y. second_parcel (F.at y)) half ∙ ap second_parcel sent in
      cond-false (k % 2 == 0) _ _ off
      ∙ ap (λ y. land_second (F.at y) (c.task y) stand n) half
      ∙ ap (λ w. land_second w (c.task x) stand n) (sent ∙ ap (λ q. Sent p q) (sym same))
      ∙ has_landed (free_at F k (row F k)) (hold k) (row F k) (c.task x).second n now

  module _ (now : due stand ≡ true) where
    -- the oldest frame is good
    pub own_ok : FrameOk blocks (committed h.window.state) e
    own_ok = oldest_ok blocks budget h.window e a.younger ok a.frames

    -- in a place in which something is due a parcel stands
    pub row_there : row F k ≢ Nowhere
    row_there = arriving.row_there blocks good budget t f m rule hold k small h a ok went now

    -- and stood before the tick
    pub there : m.parcels f.number k ≢ Nowhere
    there = arriving.there blocks good budget t f m rule hold k small h a ok went now

    -- the grid with the place emptied
    abbrev pub M : Grid W
    M = record h { parcels = put h.parcels f.number k Nowhere }

    abbrev Next : Grid W → Type 0
    Next H = AtPlace blocks good budget t f m rule hold (suc k) H

    goes_on : (E : Frame) (H : Grid W) → Arrived blocks good budget t f m rule hold k small h a ok went now E H
        → Next H
    goes_on E H b = next blocks good budget t f m rule hold k small h a ok went now E H b

    -- a token arrives
    pub token : (y : IsToken f k) → ((q : ℕ) → land q ≡ (target f.code k == q))
        → ((x : ℕ) (i : Inst) → slot_of f.code x ≡ Some i → is_waiting (at f.requests i.number) x ≡ true
        → 2 * x ≡ k → ⊥) → Next (delivers blocks budget e.number k M)
    token y lands_at none = subst (λ n. Next (delivers blocks budget n k M)) (sym a.number)
        (goes_on _ _ (token_arrives blocks good budget t f m rule hold k small h a ok went now y
        (λ q. lands_at q ∙ ap (λ b. target b k == q) (sym a.code)) none))

    -- a slot -----------------------------------------------------------------------------------------

    module _ (x : ℕ) (half : k / 2 ≡ x) (low : k < 256) (i : Inst) (s : slot_of f.code x ≡ Some i) where
      x_small : x < 128
      x_small =
          let l : x < length f.code.insts.items = inst_in f.code.insts.items x i s in
          let z : length e.code.insts.items ≡ 128 = (good e.block e.code own_ok.code).fits.insts in
          let y : length f.code.insts.items ≡ length e.code.insts.items =
          ap (λ b. length b.insts.items) (sym a.code) in
          omega (arith, l, z, y)

      in_slots : x < slot_tasks
      in_slots = let u = slot_tasks_is in let l = x_small in omega (arith, l, u)

      abbrev far : Kind → Phase
      far z = slot_far z (slice_index_or f.fired x false) (m.works f.number x) (is_waiting (at f.requests i.number) x)
          (m.asked f.number i.number) (m.parcels f.number (2 * x)) (m.parcels f.number (suc (2 * x)))

      far_is : F.at x ≡ far (kind_of (form_of i.op))
      far_is = at_slot m f x in_slots ∙ ap (slot_phase m f x) s ∙ slot_phase_is m f x i

      -- the task of a slot that holds an instruction
      pub task_x : c.task x ≡ slot_task f.code t x (Some i)
      task_x = slot_is f.code t x in_slots ∙ ap (slot_task f.code t x) s

      abbrev served : ℕ
      served = data_node (tile_by i (at_place f.code t x))

      -- its parcel is that of its phase
      first_there : k ≡ 2 * x → first_parcel (far (kind_of (form_of i.op))) ≢ Nowhere
      first_there is z = row_there (cond-true (k % 2 == 0) _ _
          (let par : k % 2 ≡ 0 = omega (arith, is) in eq-eqb (k % 2) 0 par)
          ∙ ap (λ y. first_parcel (F.at y)) half ∙ ap first_parcel far_is ∙ z)

      second_there : k ≡ suc (2 * x) → second_parcel (far (kind_of (form_of i.op))) ≢ Nowhere
      second_there is z = row_there (cond-false (k % 2 == 0) _ _
          (let par : k % 2 ≡ 1 = omega (arith, is) in ne_eqb (k % 2) 0 (λ z. absurd (omega (arith, par, z))))
          ∙ ap (λ y. second_parcel (F.at y)) half ∙ ap second_parcel far_is ∙ z)

      sent_even : k ≡ 2 * x
          → (is_waiting (at f.requests i.number) x ≡ true → kind_of (form_of i.op) ≡ Serving → ⊥)
          → F.at x ≡ Sent (m.parcels f.number (2 * x)) (m.parcels f.number (suc (2 * x)))
      sent_even is open' = far_is ∙ sent_first (kind_of (form_of i.op)) (slice_index_or f.fired x false)
          (m.works f.number x) (is_waiting (at f.requests i.number) x) (m.asked f.number i.number)
          (m.parcels f.number (2 * x)) (m.parcels f.number (suc (2 * x))) (first_there is) open'

      sent_odd : k ≡ suc (2 * x) → F.at x ≡ Sent (m.parcels f.number (2 * x)) (m.parcels f.number (suc (2 * x)))
      sent_odd is = far_is ∙ sent_second (kind_of (form_of i.op)) (slice_index_or f.fired x false)
          (m.works f.number x) (is_waiting (at f.requests i.number) x) (m.asked f.number i.number)
          (m.parcels f.number (2 * x)) (m.parcels f.number (suc (2 * x))) (second_there is)

      travels : Travels f (form_of i.op) i k
      travels = rule.slots k i low there (ap (slot_of f.code) half ∙ s)

      -- a token of the slot
      slot_token : (z : Form) → form_of i.op ≡ z
          → ((is_waiting (at f.requests i.number) x ≡ true) → kind_of (form_of i.op) ≡ Serving → ⊥)
          → ((n : ℕ) → first_place z n i.first ≡ place_at i.first)
          → ((n : ℕ) → first_of f.code z i n ≡ target_at f.code (place_at i.first))
          → IsToken f k → ((w : is_waiting (at f.requests i.number) x ≡ true) → ⊥)
          → Next (delivers blocks budget e.number k M)
      slot_token z kind open' place first y none = token y (λ q. lands_at q (half_places k x half)) none_waits
        where
          none_waits : (y : ℕ) (j : Inst) → slot_of f.code y ≡ Some j → is_waiting (at f.requests j.number) y ≡ true
              → 2 * y ≡ k → ⊥
          none_waits y j d w u =
              let one : y ≡ x = omega (arith, u, half) in
              let same : Some j ≡ Some i = sym d ∙ ap (slot_of f.code) one ∙ s in
              let it : j ≡ i = cc in
              none (ap₂ (λ (i : Inst) y. is_waiting (at f.requests i.number) y) (sym it) (sym one) ∙ w)

          lands_at : (q : ℕ) → (k ≡ 2 * x) ⊎ (k ≡ suc (2 * x)) → land q ≡ (target f.code k == q)
          lands_at q (inl is) =
              even_lands x is (m.parcels f.number (2 * x)) (m.parcels f.number (suc (2 * x)))
              (sent_even is open') now q
              ∙ ap (λ o. hits o q) (ap (λ (z : Task). z.first) task_x
              ∙ ap (λ z. first_of f.code z i served) kind ∙ first served)
              ∙ hits_target f.code (place_at i.first) q (sym (ap is_target goes) ∙ y.goes)
              ∙ ap (λ p. p == q) (sym goes)
            where
              goes : target f.code k ≡ place_at i.first
              goes = ap (target f.code) is ∙ (slot_targets f.code x i x_small s).0
                  ∙ ap (λ z. first_place z i.number i.first) kind ∙ place i.number
          lands_at q (inr is) =
              odd_lands x is (m.parcels f.number (2 * x)) (m.parcels f.number (suc (2 * x))) (sent_odd is) now q
              ∙ ap (λ o. hits o q) (ap (λ (z : Task). z.second) task_x)
              ∙ hits_target f.code (place_at i.second) q (sym (ap is_target goes) ∙ y.goes)
              ∙ ap (λ p. p == q) (sym goes)
            where
              goes : target f.code k ≡ place_at i.second
              goes = ap (target f.code) is ∙ (slot_targets f.code x i x_small s).1

      -- a request of the slot
      slot_request : kind_of (form_of i.op) ≡ Serving → is_waiting (at f.requests i.number) x ≡ true
          → Next (asks e.number i.number M)
      slot_request serving w = by (half_places k x half)
        where
          by : (k ≡ 2 * x) ⊎ (k ≡ suc (2 * x)) → Next (asks e.number i.number M)
          by (inl is) = goes_on _ _
              (request_arrives blocks good budget t f m rule hold k small h a ok went now x is i s w
              serving)
          by (inr is) = absurd (second_there is
              (ap₂ (λ z d. second_parcel (slot_far z (slice_index_or f.fired x false) (m.works f.number x) d
              (m.asked f.number i.number) (m.parcels f.number (2 * x)) (m.parcels f.number (suc (2 * x))))) serving w
              ∙ no_second (slice_index_or f.fired x false) (m.works f.number x) (m.asked f.number i.number)
              (m.parcels f.number (2 * x)) (m.parcels f.number (suc (2 * x)))))

      -- the exit of the slot
      slot_branch : form_of i.op ≡ form.Branch → Travels f form.Branch i k
          → Next (slot_arrives blocks budget form.Branch i k e M)
      slot_branch kind v =
          let is : k ≡ 2 * x = (let par = v.1 in omega (arith, par, half)) in
          goes_on _ _ (branch_arrives blocks good budget t f m rule hold k small h a ok went now x is i s kind
          (λ q. even_lands x is (m.parcels f.number (2 * x)) (m.parcels f.number (suc (2 * x))) (sent_even is
          (λ w z. let bad : Plain ≡ Serving = sym (ap kind_of kind) ∙ z in cc)) now q
          ∙ ap (λ o. hits o q) (ap (λ (z : Task). z.first) task_x
          ∙ ap (λ z. first_of f.code z i served) kind)))

      plain_open : (z : Form) → form_of i.op ≡ z → kind_of z ≡ Plain → is_waiting (at f.requests i.number) x ≡ true
          → kind_of (form_of i.op) ≡ Serving → ⊥
      plain_open z kind p w y = let bad : Plain ≡ Serving = sym p ∙ sym (ap kind_of kind) ∙ y in cc

      unwaited : (z : Form) → form_of i.op ≡ z → has_number z ≡ false → is_waiting (at f.requests i.number) x ≡ true
          → ⊥
      unwaited z kind p w =
          let n : has_number (form_of i.op) ≡ true =
          rule.numbered i.number x (waiting_is (at f.requests i.number) x w) i s in
          true≢false (sym n ∙ ap has_number kind ∙ p)

      form_arrives : (z : Form) → form_of i.op ≡ z → Travels f z i k → Next (slot_arrives blocks budget z i k e M)
      form_arrives form.Load kind v =
          subst (λ b. Next (cond b (asks e.number i.number M) (delivers blocks budget e.number k M)))
          (sym (ap₂ (λ l y. is_waiting (at l i.number) y) a.requests half))
          (go (is_waiting (at f.requests i.number) x) refl)
        where
          go : (b : Bool) → is_waiting (at f.requests i.number) x ≡ b
              → Next (cond b (asks e.number i.number M) (delivers blocks budget e.number k M))
          go true w = slot_request (ap kind_of kind) w
          go false w = slot_token form.Load kind (λ y u. true≢false (sym y ∙ w)) (λ n. refl) (λ n. refl)
              (v (ap (is_waiting (at f.requests i.number)) half ∙ w)) (λ y. true≢false (sym y ∙ w))
      form_arrives form.Store kind v = slot_request (ap kind_of kind)
          (sym (ap (is_waiting (at f.requests i.number)) half) ∙ v)
      form_arrives form.Branch kind v = slot_branch kind v
      form_arrives form.General kind v = slot_token form.General kind (plain_open form.General kind refl) (λ n. refl)
          (λ n. refl) v (unwaited form.General kind refl)
      form_arrives form.Immediate kind v = slot_token form.Immediate kind (plain_open form.Immediate kind refl)
          (λ n. refl) (λ n. refl) v (unwaited form.Immediate kind refl)
      form_arrives form.Constant kind v = slot_token form.Constant kind (plain_open form.Constant kind refl)
          (λ n. refl)
          (λ n. refl) v (unwaited form.Constant kind refl)

    -- what is due in a place of a slot arrives
    pub slot_arrived : k < 256 → Next (inst_arrives blocks budget (slot_of e.code (k / 2)) k e M)
    slot_arrived low = subst (λ b. Next (inst_arrives blocks budget (slot_of b (k / 2)) k e M)) (sym a.code)
        (go (slot_of f.code (k / 2)) refl)
      where
        in_slots : k / 2 < slot_tasks
        in_slots = let u = slot_tasks_is in omega (arith, low, u)

        empty : slot_of f.code (k / 2) ≡ None → row F k ≡ Nowhere
        empty z =
            let gone : F.at (k / 2) ≡ Absent = at_slot m f (k / 2) in_slots ∙ ap (slot_phase m f (k / 2)) z in
            ap₂ (λ p q. cond (k % 2 == 0) p q) (ap first_parcel gone) (ap second_parcel gone) ∙ same (k % 2 == 0)
          where
            same : (b : Bool) → cond b Nowhere Nowhere ≡ Nowhere
            same true = refl
            same false = refl

        go : (o : Option Inst) → slot_of f.code (k / 2) ≡ o → Next (inst_arrives blocks budget o k e M)
        go None z = absurd (row_there (empty z))
        go (Some i) z = form_arrives (k / 2) refl low i z (form_of i.op) refl (travels (k / 2) refl low i z)
