-- Part (6), the places of the oldest frame, one after another.
use Rattle.std.proofs.Common.{◌≡◌, ◌≢◌, ℕ, suc, ◌+◌, ◌*◌, ◌-◌, ◌/◌, ◌%◌, ◌<◌, ◌≤◌, ◌==◌, ◌⊎◌, inl, inr}
use Rattle.std.proofs.Common.{Bool, true, false, cond, nat_lt, List, length, Option, Some, None, slice_get}
use Rattle.std.proofs.Common.{slice_index_or, refl, sym, ap, ap₂, ◌∙◌, subst, arith}
use Rattle.std.proofs.lemmas.Bool.{cond-true, cond-false, cases_Bool, cases_lt, lt-ltb, le-ltb}
use Rattle.std.proofs.lemmas.Bool.{eq-eqb}
use Rattle.trips_isa.specs.declared.block.Inst.{Inst}
use Rattle.trips_isa.specs.declared.block.ReadSlot.{ReadSlot}
use Rattle.trips_isa.specs.declared.block.Block.{Block}
use Rattle.trips_isa.specs.declared.run.Stepped.TheVariants as stepped
use Rattle.trips_isa.specs.Places.{place_of, place_at}
use Rattle.trips_isa.specs.Rule.{Answer}
use Rattle.block_cases.specs.Orders.{slot_of}
use Rattle.operand_net.specs.declared.parcel.Stand.{Stand}
use Rattle.operand_net.specs.declared.parcel.Stand.TheVariants.{Nowhere}
use Rattle.operand_net.specs.Places.{put}
use Rattle.operand_net.specs.inside.Places.{come}
use Rattle.commit_flush_spec.specs.Frames.{Frame, at, target, is_target}
use Rattle.commit_flush_spec.specs.Older.{committed}
use Rattle.commit_flush_spec.specs.inside.Invariant.{AllGood, FrameOk}
use Rattle.commit_flush_spec.specs.inside.Laws.{WindowOk}
use Rattle.commit_flush_spec.proofs.Kept.{half_places}
use Rattle.commit_flush_spec.proofs.Tokens.{inst_in}
use Rattle.grid_cycle_spec.specs.Grid.{Grid}
use Rattle.grid_cycle_spec.specs.inside.Arrivals.{delivers, is_waiting, inst_arrives}
use Rattle.grid_cycle_spec.specs.inside.Arrivals.{place_arrives}
use Rattle.grid_cycle_spec.specs.inside.Arrivals.{arrives_if, arrival}
use Rattle.grid_cycle_spec.specs.Choosing.{with_frame}
use Rattle.grid_bound.specs.inside.Course.{Course, Task}
use Rattle.grid_bound.specs.inside.Lane.{Absent, Idle, Sent, Front, first_parcel, second_parcel}
use Rattle.grid_bound.specs.inside.Answering.{hits}
use Rattle.grid_bound.specs.inside.Moving.{row}
use Rattle.grid_bound.specs.inside.Blocks.{slot_tasks, slot_task, read_task, course_of}
use Rattle.grid_bound.specs.inside.Seen.{read_phase, front_of}
use Rattle.grid_bound.proofs.Sizes.{slot_tasks_is, read_is}
use Rattle.grid_bound.specs.inside.MoveRule.{IsToken, MoveRule}
use Rattle.grid_bound.proofs.Fronts.{at_read}
use Rattle.grid_bound.proofs.Entering.{read_targets}
use Rattle.grid_bound.proofs.OldestLands.{due, due_is}
use Rattle.grid_bound.proofs.PlaceArrivals.{AtPlace}
use Rattle.grid_bound.proofs.PlaceArrivals.{T, lands}
use Rattle.grid_bound.proofs.PlaceArrivals.{quiet}
use Rattle.grid_bound.proofs.SlotArrivals.{come_none, hits_target}
use Rattle.grid_bound.proofs.SlotArrivals

module _ {W : Type 0} (blocks : List Block) (good : AllGood blocks) (budget : ℕ) (t : ℕ → Answer) (f : Frame)
    (m : Grid W) (rule : MoveRule m f) (hold : ℕ → ℕ) (k : ℕ) (small : k < 320) (h : Grid W)
    (a : AtPlace blocks good budget t f m rule hold k h) (ok : WindowOk blocks budget h.window)
    (went : h.window.over ≡ stepped.Went) where
  abbrev c : Course
  c = course_of f.code t

  abbrev F : Front
  F = front_of c m f

  abbrev e : Frame
  e = a.frame

  abbrev stand : Stand
  stand = T blocks good budget t f m rule hold k

  abbrev land : ℕ → Bool
  land q = lands blocks good budget t f m rule hold k q

  -- what lands is what the task gives there
  abbrev even_lands : (x : ℕ) → k ≡ 2 * x → (p q : Stand) → F.at x ≡ Sent p q → due stand ≡ true → (n : ℕ)
      → land n ≡ hits (c.task x).first n
  even_lands = SlotArrivals.even_lands blocks good budget t f m rule hold k small h a ok went

  abbrev odd_lands : (x : ℕ) → k ≡ suc (2 * x) → (p q : Stand) → F.at x ≡ Sent p q → due stand ≡ true → (n : ℕ)
      → land n ≡ hits (c.task x).second n
  odd_lands = SlotArrivals.odd_lands blocks good budget t f m rule hold k small h a ok went

  module _ (now : due stand ≡ true) where
    abbrev own_ok : FrameOk blocks (committed h.window.state) e
    own_ok = SlotArrivals.own_ok blocks good budget t f m rule hold k small h a ok went now

    abbrev row_there : row F k ≢ Nowhere
    row_there = SlotArrivals.row_there blocks good budget t f m rule hold k small h a ok went now

    abbrev there : m.parcels f.number k ≢ Nowhere
    there = SlotArrivals.there blocks good budget t f m rule hold k small h a ok went now

    abbrev M : Grid W
    M = SlotArrivals.M blocks good budget t f m rule hold k small h a ok went now

    abbrev Next : Grid W → Type 0
    Next H = AtPlace blocks good budget t f m rule hold (suc k) H

    -- a token arrives
    abbrev token : (y : IsToken f k) → ((q : ℕ) → land q ≡ (target f.code k == q))
        → ((x : ℕ) (i : Inst) → slot_of f.code x ≡ Some i → is_waiting (at f.requests i.number) x ≡ true → 2 * x ≡ k
        → ⊥) → Next (delivers blocks budget e.number k M)
    token = SlotArrivals.token blocks good budget t f m rule hold k small h a ok went now

    abbrev task_x : (x : ℕ) (half : k / 2 ≡ x) (low : k < 256) (i : Inst) (s : slot_of f.code x ≡ Some i)
        → c.task x ≡ slot_task f.code t x (Some i)
    task_x = SlotArrivals.task_x blocks good budget t f m rule hold k small h a ok went now

    abbrev slot_arrived : k < 256 → Next (inst_arrives blocks budget (slot_of e.code (k / 2)) k e M)
    slot_arrived = SlotArrivals.slot_arrived blocks good budget t f m rule hold k small h a ok went now

    -- a read -----------------------------------------------------------------------------------------

    read_arrived : 256 ≤ k → Next (delivers blocks budget e.number k M)
    read_arrived high = go (slice_get f.code.reads.items (k / 2 - slot_tasks)) refl
      where
        tok : IsToken f k
        tok = rule.reads k high small there

        none_waits : (y : ℕ) (j : Inst) → slot_of f.code y ≡ Some j → is_waiting (at f.requests j.number) y ≡ true
            → 2 * y ≡ k → ⊥
        none_waits y j d w u =
            let l : y < length f.code.insts.items = inst_in f.code.insts.items y j d in
            let z : length e.code.insts.items ≡ 128 = (good e.block e.code own_ok.code).fits.insts in
            let v : length f.code.insts.items ≡ length e.code.insts.items =
            ap (λ b. length b.insts.items) (sym a.code) in
            absurd (omega (arith, l, z, v, u, high))

        at_x : k / 2 ≡ slot_tasks + (k / 2 - slot_tasks)
        at_x = let u = slot_tasks_is in omega (arith, high, u)

        phase : F.at (k / 2) ≡ read_phase m f (k / 2 - slot_tasks) (slice_get f.code.reads.items (k / 2 - slot_tasks))
        phase = ap F.at at_x ∙ at_read m f (k / 2 - slot_tasks)

        both_nowhere : F.at (k / 2) ≡ Absent ⊎ (F.at (k / 2) ≡ Idle) → row F k ≡ Nowhere
        both_nowhere (inl z) = ap₂ (λ p q. cond (k % 2 == 0) p q) (ap first_parcel z) (ap second_parcel z)
            ∙ same (k % 2 == 0)
          where
            same : (b : Bool) → cond b Nowhere Nowhere ≡ Nowhere
            same true = refl
            same false = refl
        both_nowhere (inr z) = ap₂ (λ p q. cond (k % 2 == 0) p q) (ap first_parcel z) (ap second_parcel z)
            ∙ same (k % 2 == 0)
          where
            same : (b : Bool) → cond b Nowhere Nowhere ≡ Nowhere
            same true = refl
            same false = refl

        go : (o : Option ReadSlot) → slice_get f.code.reads.items (k / 2 - slot_tasks) ≡ o
            → Next (delivers blocks budget e.number k M)
        go None z = absurd (row_there (both_nowhere (inl (phase ∙ ap (read_phase m f (k / 2 - slot_tasks)) z))))
        go (Some r) z = flag (slice_index_or f.reads (k / 2 - slot_tasks) false) refl
          where
            task_x : c.task (k / 2) ≡ read_task f.code (Some r)
            task_x = ap c.task at_x ∙ read_is f.code t (k / 2 - slot_tasks) ∙ ap (read_task f.code) z

            place_is : (k ≡ 2 * (k / 2)) ⊎ (k ≡ suc (2 * (k / 2)))
                → (k ≡ 256 + 2 * (k / 2 - slot_tasks)) ⊎ (k ≡ suc (256 + 2 * (k / 2 - slot_tasks)))
            place_is (inl y) = inl (let u = slot_tasks_is in let v = at_x in omega (arith, y, u, v))
            place_is (inr y) = inr (let u = slot_tasks_is in let v = at_x in omega (arith, y, u, v))

            flag : (b : Bool) → slice_index_or f.reads (k / 2 - slot_tasks) false ≡ b
                → Next (delivers blocks budget e.number k M)
            flag false y = absurd (row_there (both_nowhere (inr (phase
                ∙ ap (read_phase m f (k / 2 - slot_tasks)) z ∙ cond-false _ _ _ y))))
            flag true y = token tok (λ q. lands_at q (half_places k (k / 2) refl)) none_waits
              where
                sent : F.at (k / 2) ≡ Sent (m.parcels f.number (2 * (slot_tasks + (k / 2 - slot_tasks))))
                    (m.parcels f.number (suc (2 * (slot_tasks + (k / 2 - slot_tasks)))))
                sent = phase ∙ ap (read_phase m f (k / 2 - slot_tasks)) z ∙ cond-true _ _ _ y

                lands_at : (q : ℕ) → (k ≡ 2 * (k / 2)) ⊎ (k ≡ suc (2 * (k / 2))) → land q ≡ (target f.code k == q)
                lands_at q (inl is) =
                    even_lands (k / 2) is _ _ sent now q ∙ ap (λ o. hits o q) (ap (λ (z : Task). z.first) task_x)
                    ∙ hits_target f.code (place_of r.first) q (sym (ap is_target goes) ∙ tok.goes)
                    ∙ ap (λ p. p == q) (sym goes)
                  where
                    goes : target f.code k ≡ place_of r.first
                    goes = ap (target f.code) (let u = slot_tasks_is in let v = at_x in
                        let w : k ≡ 256 + 2 * (k / 2 - slot_tasks) = omega (arith, is, u, v) in w)
                        ∙ (read_targets f.code (k / 2 - slot_tasks) r z).0
                lands_at q (inr is) =
                    odd_lands (k / 2) is _ _ sent now q ∙ ap (λ o. hits o q) (ap (λ (z : Task). z.second) task_x)
                    ∙ hits_target f.code (place_at r.second) q (sym (ap is_target goes) ∙ tok.goes)
                    ∙ ap (λ p. p == q) (sym goes)
                  where
                    goes : target f.code k ≡ place_at r.second
                    goes = ap (target f.code) (let u = slot_tasks_is in let v = at_x in
                        let w : k ≡ suc (256 + 2 * (k / 2 - slot_tasks)) = omega (arith, is, u, v) in w)
                        ∙ (read_targets f.code (k / 2 - slot_tasks) r z).1

    arrived : Next (place_arrives blocks budget k e M)
    arrived = by (cases_lt k 256)
      where
        by : (k < 256) ⊎ (256 ≤ k) → Next (place_arrives blocks budget k e M)
        by (inl l) = subst Next (sym (cond-true (nat_lt k 256) _ _ (lt-ltb k 256 l))) (slot_arrived l)
        by (inr l) = subst Next (sym (cond-false (nat_lt k 256) _ _ (le-ltb k 256 l))) (read_arrived l)

  -- the place's turn ---------------------------------------------------------------------------------

  stands_here : h.parcels f.number k ≡ stand
  stands_here = a.parcels k small ∙ cond-false (nat_lt k k) _ _ (le-ltb k k (omega arith))

  -- where the oldest frame stands right behind the first k places, it does behind one more
  pub place_turns : AtPlace blocks good budget t f m rule hold (suc k) (arrival blocks budget f.number k h)
  place_turns = by (cases_Bool (due stand))
    where
      by : (due stand ≡ true) ⊎ (due stand ≡ false)
          → AtPlace blocks good budget t f m rule hold (suc k) (arrival blocks budget f.number k h)
      by (inr z) = subst (λ o. AtPlace blocks good budget t f m rule hold (suc k)
          (arrives_if blocks budget f.number k o h))
          (sym (ap (come f.number k) stands_here ∙ come_none f.number k stand z))
          (quiet blocks good budget t f m rule hold k h a z)
      by (inl z) =
          let d = due_is stand z in
          subst (λ o. AtPlace blocks good budget t f m rule hold (suc k)
          (arrives_if blocks budget f.number k o h))
          (sym (ap (come f.number k) (stands_here ∙ d.1)))
          (subst (AtPlace blocks good budget t f m rule hold (suc k))
          (sym (ap (λ l. with_frame f.number (place_arrives blocks budget k) l
          (record h { parcels = put h.parcels f.number k Nowhere })) a.frames
          ∙ cond-true (e.number == f.number) _ _ (eq-eqb e.number f.number a.number)))
          (arrived z))
