-- Part (6) as a whole: the parcels of the oldest frame move as the lane's do, and what other frames are delivered it
-- does not see.
use Rattle.std.proofs.Common.{◌≡◌, ◌≢◌, ℕ, zero, suc, ◌+◌, ◌*◌, ◌-◌, ◌/◌, ◌%◌, ◌<◌, ◌≤◌, ◌==◌, ◌&&◌}
use Rattle.std.proofs.Common.{◌||◌, ◌⊎◌, inl, inr}
use Rattle.std.proofs.Common.{Bool, true, false, nat_lt, List, [], ◌∷◌, length, Option, Some, None, slice_get}
use Rattle.std.proofs.Common.{slice_index, slice_index_or, refl, sym, ap, ap₂, ◌∙◌, subst, arith}
use Rattle.std.proofs.Math.Path.{fun_ext}
use Rattle.std.proofs.lemmas.Bool.{cond-true, cond-false, cases_lt, lt-ltb, le-ltb}
use Rattle.std.proofs.lemmas.Bool.{eq-eqb, ne_eqb}
use Rattle.trips_isa.specs.declared.block.Inst.{Inst}
use Rattle.trips_isa.specs.declared.block.ReadSlot.{ReadSlot}
use Rattle.trips_isa.specs.declared.block.Block.{Block}
use Rattle.trips_isa.specs.declared.form.Form.TheVariants as form
use Rattle.trips_isa.specs.declared.run.Stepped.TheVariants as stepped
use Rattle.trips_isa.specs.Forms.{form_of}
use Rattle.trips_isa.specs.Rule.{Answer}
use Rattle.block_cases.specs.Orders.{slot_of}
use Rattle.operand_net.specs.declared.parcel.Stand.{Stand}
use Rattle.operand_net.specs.declared.parcel.Stand.TheVariants.{Nowhere, Away, Held}
use Rattle.operand_net.specs.Places.{Places}
use Rattle.operand_net.specs.Tick.{ticked, is_free}
use Rattle.commit_flush_spec.specs.Frames.{Frame, at}
use Rattle.commit_flush_spec.specs.Older.{committed}
use Rattle.commit_flush_spec.specs.inside.Invariant.{AllGood, FrameOk}
use Rattle.commit_flush_spec.specs.inside.Laws.{WindowOk}
use Rattle.commit_flush_spec.proofs.Tokens.{inst_in}
use Rattle.commit_flush_spec.proofs.Tokens as tokens
use Rattle.grid_cycle_spec.specs.Grid.{Grid, numbers_of}
use Rattle.grid_cycle_spec.specs.inside.Arrivals.{is_waiting, arrival, arrivals}
use Rattle.grid_cycle_spec.specs.Choosing.{each}
use Rattle.grid_cycle_spec.specs.inside.Choosing.{places}
use Rattle.grid_bound.specs.inside.Course.{Kind, Reading, Plain, Serving, Course}
use Rattle.grid_bound.specs.inside.Lane.{any, Phase, Absent, Idle, Working, Asking, Standing, Sent, Front}
use Rattle.grid_bound.specs.inside.Lane.{first_parcel}
use Rattle.grid_bound.specs.inside.Lane.{second_parcel}
use Rattle.grid_bound.specs.inside.Sending.{none_busy}
use Rattle.grid_bound.specs.inside.Moving.{row, free_at, moved, landed, move_at, move_front}
use Rattle.grid_bound.specs.inside.Moving as moving
use Rattle.grid_bound.specs.inside.Blocks.{slot_tasks, room, kind_of, course_of}
use Rattle.grid_bound.specs.inside.Seen.{slot_phase, read_phase, phase_of, has_come, front_of}
use Rattle.grid_bound.proofs.Sizes.{slot_tasks_is, room_is}
use Rattle.grid_bound.specs.inside.Behind.{Apart}
use Rattle.grid_bound.specs.inside.Shows.{Shows}
use Rattle.grid_bound.specs.inside.MoveRule.{Travels, MoveRule}
use Rattle.grid_bound.proofs.Ahead.{younger_apart}
use Rattle.grid_cycle_spec.proofs.KeptChanges.{places_are}
use Rattle.grid_cycle_spec.proofs.KeptByArrivals.{places_keep}
use Rattle.grid_bound.proofs.Steady.{Onward, On, steady}
use Rattle.grid_bound.proofs.Others.{behind_at, Stays, places_other}
use Rattle.grid_bound.proofs.OldestEnds.{oldest_ok}
use Rattle.grid_bound.proofs.Fronts.{front_behind, left_unit, slot_far, slot_phase_is}
use Rattle.grid_bound.proofs.Fronts.{far_same, same_front, at_slot, at_read}
use Rattle.grid_bound.proofs.OldestLands.{due, ticked_there, there_is, not_there, free_same, any_pairs}
use Rattle.grid_bound.proofs.PlaceArrivals.{land_first, land_second, AtPlace, T, lands}
use Rattle.grid_bound.proofs.OldestArrivals.{place_turns}

-- a request that has come stands, and one that has not goes on
request_by : (s p q : Stand) → s ≢ Nowhere → p ≡ moving.taken s
    → left_unit Serving true (due s) p q ≡ moving.asked (moving.taken s)
request_by Nowhere p q n e = absurd (n refl)
request_by (Away t k) p q n e = ap Asking e
request_by (Held t zero) p q n e = refl
request_by (Held t (suc h)) p q n e = ap Asking e

-- a slot's phase when its parcels have moved
slot_moves : (k : Kind) (f w d a x y : Bool) (h j : ℕ) (p q : Stand)
    → (slot_far k f w d a p q ≡ Asking p → p ≢ Nowhere)
    → slot_far k f w d (a || due (ticked x h (first_parcel (slot_far k f w d a p q))))
    (moving.taken (ticked x h (first_parcel (slot_far k f w d a p q))))
    (moving.taken (ticked y j (second_parcel (slot_far k f w d a p q)))) ≡ moved x y h j (slot_far k f w d a p q)
slot_moves k false w d a x y h j p q n = refl
slot_moves k true true d a x y h j p q n = refl
slot_moves Reading true false d a x y h j p q n = refl
slot_moves Plain true false d a x y h j p q n = refl
slot_moves Serving true false true true x y h j p q n = refl
slot_moves Serving true false true false x y h j p q n =
    request_by (ticked x h p) (moving.taken (ticked x h p)) Nowhere
    (there_is (ticked x h p) (ticked_there x h p ∙ not_there p (n refl))) refl
slot_moves Serving true false false a x y h j p q n = refl

module _ {W : Type 0} (blocks : List Block) (good : AllGood blocks) (budget : ℕ) (t : ℕ → Answer) (f : Frame)
    (m : Grid W) (rule : MoveRule m f) (hold : ℕ → ℕ) (fs : List Frame) (i : m.window.frames ≡ f ∷ fs)
    (ok : WindowOk blocks budget m.window) (went : m.window.over ≡ stepped.Went) (runs : f.sealed ≡ false)
    (parcels : Places) (weather : W)
    (moves : (p : ℕ) → p < 320 → parcels f.number p
    ≡ ticked (is_free none_busy (m.parcels f.number) p (m.parcels f.number p)) (hold p) (m.parcels f.number p)) where
  abbrev c : Course
  c = course_of f.code t

  abbrev F : Front
  F = front_of c m f

  -- the grid behind the tick
  abbrev N : Grid W
  N = record m { parcels = parcels; weather = weather }

  own_ok : FrameOk blocks (committed m.window.state) f
  own_ok = oldest_ok blocks budget m.window f fs ok i

  ticks : (p : ℕ) → p < 320 → parcels f.number p ≡ T blocks good budget t f m rule hold p
  ticks p l = moves p l
      ∙ ap₂ (λ b s. ticked b (hold p) s)
      (free_same none_busy (m.parcels f.number) (row F) p (m.parcels f.number p)
      (λ k n. rule.rows k (omega (arith, n, l))) ∙ ap (is_free none_busy (row F) p) (rule.rows p l))
      (rule.rows p l)

  small : (x : ℕ) (j : Inst) → slot_of f.code x ≡ Some j → x < 128
  small x j s =
      let l : x < length f.code.insts.items = inst_in f.code.insts.items x j s in
      let z : length f.code.insts.items ≡ 128 = (good f.block f.code own_ok.code).fits.insts in omega (arith, l, z)

  off : (b : Bool) → b ≡ (b || false)
  off true = refl
  off false = refl

  starts : AtPlace blocks good budget t f m rule hold 0 N
  starts = record {
    frame = f;
    younger = fs;
    frames = i;
    number = refl;
    code = refl;
    stores = refl;
    runs = runs;
    fired = refl;
    reads = refl;
    requests = refl;
    works = refl;
    generation = refl;
    careful = refl;
    parcels = λ p l. ticks p l ∙ sym (cond-false (nat_lt p 0) _ _ (le-ltb p 0 (omega arith)));
    asked = λ x j s w. off (m.asked f.number j.number)
        ∙ ap (λ b. m.asked f.number j.number || (b && due (T blocks good budget t f m rule hold (2 * x))))
        (sym (le-ltb (2 * x) 0 (omega arith)));
    places = λ p l. refl;
    leaving = λ x j s b l n. leaves x j s b n;
    come = λ q. off (has_come f q);
  }
    where
      leaves : (x : ℕ) (j : Inst) → slot_of f.code x ≡ Some j → form_of j.op ≡ form.Branch
          → m.parcels f.number (2 * x) ≢ Nowhere → f.leaving ≡ Some x
      leaves x j s b n =
          let half : 2 * x / 2 ≡ x = omega arith in
          let l = small x j s in
          (subst (λ z. Travels f z j (2 * x)) b
          (rule.slots (2 * x) j (omega (arith, l)) n (ap (slot_of f.code) half ∙ s))).0 ∙ ap Some half

  onward : (k : ℕ) → k ≤ 320 → Onward blocks budget m.window (each (arrival blocks budget f.number) k N).window
  onward k l = places_keep blocks budget (On blocks budget) (steady blocks budget good) f.number tt k
      (subst (λ n. k ≤ n) (sym places_are) l) N

  after : (k : ℕ) → k ≤ 320 → AtPlace blocks good budget t f m rule hold k (each (arrival blocks budget f.number) k N)
  after zero l = starts
  after (suc k) l = place_turns blocks good budget t f m rule hold k l (each (arrival blocks budget f.number) k N)
      (after k (omega (arith, l))) ((onward k (omega (arith, l))).ok ok) ((onward k (omega (arith, l))).over ∙ went)

  -- all places have been looked at ------------------------------------------------------------------

  abbrev H : Grid W
  H = each (arrival blocks budget f.number) places N

  last : AtPlace blocks good budget t f m rule hold 320 H
  last = subst (λ n. AtPlace blocks good budget t f m rule hold 320 (each (arrival blocks budget f.number) n N))
      (sym places_are) (after 320 (omega arith))

  abbrev e : Frame
  e = last.frame

  abbrev stand : ℕ → Stand
  stand = T blocks good budget t f m rule hold

  -- the places of a task
  row_first : (x : ℕ) → row F (2 * x) ≡ first_parcel (F.at x)
  row_first x =
      let half : 2 * x / 2 ≡ x = omega arith in
      cond-true (2 * x % 2 == 0) _ _ (let par : 2 * x % 2 ≡ 0 = omega arith in eq-eqb (2 * x % 2) 0 par)
      ∙ ap (λ y. first_parcel (F.at y)) half

  row_second : (x : ℕ) → row F (suc (2 * x)) ≡ second_parcel (F.at x)
  row_second x =
      let half : suc (2 * x) / 2 ≡ x = omega arith in
      cond-false (suc (2 * x) % 2 == 0) _ _
      (let par : suc (2 * x) % 2 ≡ 1 = omega arith in
      ne_eqb (suc (2 * x) % 2) 0 (λ z. absurd (omega (arith, par, z))))
      ∙ ap (λ y. second_parcel (F.at y)) half

  stand_first : (x : ℕ) → stand (2 * x)
      ≡ ticked (free_at F (2 * x) (first_parcel (F.at x))) (hold (2 * x)) (first_parcel (F.at x))
  stand_first x = ap (λ s. ticked (free_at F (2 * x) s) (hold (2 * x)) s) (row_first x)

  stand_second : (x : ℕ) → stand (suc (2 * x))
      ≡ ticked (free_at F (suc (2 * x)) (second_parcel (F.at x))) (hold (suc (2 * x))) (second_parcel (F.at x))
  stand_second x = ap (λ s. ticked (free_at F (suc (2 * x)) s) (hold (suc (2 * x))) s) (row_second x)

  left : (p : ℕ) → p < 320 → H.parcels e.number p ≡ moving.taken (stand p)
  left p l = ap (λ n. H.parcels n p) last.number ∙ last.parcels p l
      ∙ cond-true (nat_lt p 320) _ _ (lt-ltb p 320 l)

  -- each task has moved as the lane's has
  abbrev far_of : ℕ → Inst → Phase
  far_of x j = slot_far (kind_of (form_of j.op)) (slice_index_or f.fired x false) (m.works f.number x)
      (is_waiting (at f.requests j.number) x) (m.asked f.number j.number) (m.parcels f.number (2 * x))
      (m.parcels f.number (suc (2 * x)))

  slot_moved : (x : ℕ) → x < slot_tasks → (j : Inst) → slot_of f.code x ≡ Some j → phase_of H e x ≡ move_at hold F x
  slot_moved x l j s =
      let u = slot_tasks_is in
      at_slot H e x l ∙ ap (slot_phase H e x) (ap (λ b. slot_of b x) last.code ∙ s) ∙ slot_phase_is H e x j
      ∙ far_same (kind_of (form_of j.op)) _ _ _ _ _ _ _ _ _ _ _ _
      (ap (λ z. slice_index_or z x false) last.fired)
      (ap (λ n. H.works n x) last.number ∙ ap (λ w. w x) last.works)
      (ap (λ z. is_waiting (at z j.number) x) last.requests)
      (λ w. ap (λ n. H.asked n j.number) last.number ∙ last.asked x j s w
      ∙ ap₂ (λ b y. m.asked f.number j.number || (b && due y)) (lt-ltb (2 * x) 320 (omega (arith, l, u)))
      (stand_first x ∙ ap (λ P. ticked (free_at F (2 * x) (first_parcel P)) (hold (2 * x)) (first_parcel P)) far_is))
      (left (2 * x) (omega (arith, l, u)) ∙ ap moving.taken (stand_first x
      ∙ ap (λ P. ticked (free_at F (2 * x) (first_parcel P)) (hold (2 * x)) (first_parcel P)) far_is))
      (left (suc (2 * x)) (omega (arith, l, u)) ∙ ap moving.taken (stand_second x
      ∙ ap (λ P. ticked (free_at F (suc (2 * x)) (second_parcel P)) (hold (suc (2 * x))) (second_parcel P)) far_is))
      ∙ slot_moves (kind_of (form_of j.op)) (slice_index_or f.fired x false) (m.works f.number x)
      (is_waiting (at f.requests j.number) x) (m.asked f.number j.number)
      (free_at F (2 * x) (first_parcel (far_of x j))) (free_at F (suc (2 * x)) (second_parcel (far_of x j)))
      (hold (2 * x))
      (hold (suc (2 * x))) (m.parcels f.number (2 * x)) (m.parcels f.number (suc (2 * x)))
      (λ z. rule.asks x (m.parcels f.number (2 * x)) (far_is ∙ z))
      ∙ ap (λ P. moved (free_at F (2 * x) (first_parcel P)) (free_at F (suc (2 * x)) (second_parcel P)) (hold (2 * x))
      (hold (suc (2 * x))) P) (sym far_is)
    where
      far_is : F.at x ≡ far_of x j
      far_is = at_slot m f x l ∙ ap (slot_phase m f x) s ∙ slot_phase_is m f x j

  read_moved : (x r : ℕ) → x ≡ slot_tasks + r → phase_of H e x ≡ move_at hold F x
  read_moved x r z = go (slice_get f.code.reads.items r) refl
    where
      now : phase_of H e x ≡ read_phase H e r (slice_get f.code.reads.items r)
      now = ap (phase_of H e) z ∙ at_read H e r ∙ ap (λ b. read_phase H e r (slice_get b.reads.items r)) last.code

      before : F.at x ≡ read_phase m f r (slice_get f.code.reads.items r)
      before = ap F.at z ∙ at_read m f r

      moves_from : (P : Phase) → F.at x ≡ P → (Q : Phase)
          → Q ≡ moved (free_at F (2 * x) (first_parcel P)) (free_at F (suc (2 * x)) (second_parcel P)) (hold (2 * x))
          (hold (suc (2 * x))) P → Q ≡ move_at hold F x
      moves_from P y Q w = w ∙ ap (λ P. moved (free_at F (2 * x) (first_parcel P))
          (free_at F (suc (2 * x)) (second_parcel P)) (hold (2 * x)) (hold (suc (2 * x))) P) (sym y)

      go : (o : Option ReadSlot) → slice_get f.code.reads.items r ≡ o → phase_of H e x ≡ move_at hold F x
      go None y = now ∙ ap (read_phase H e r) y ∙ moves_from Absent (before ∙ ap (read_phase m f r) y) Absent refl
      go (Some q) y = flag (slice_index_or f.reads r false) refl
        where
          fits : suc (2 * x) < 320
          fits =
              let few : length f.code.reads.items ≤ 32 = (good f.block f.code own_ok.code).fits.reads in
              let l : r < length f.code.reads.items = tokens.read_is f.code.reads.items r q y in
              let u = slot_tasks_is in omega (arith, few, l, u, z)

          reads : slice_index_or e.reads r false ≡ slice_index_or f.reads r false
          reads = ap (λ l. slice_index_or l r false) last.reads

          flag : (b : Bool) → slice_index_or f.reads r false ≡ b → phase_of H e x ≡ move_at hold F x
          flag false w = now ∙ ap (read_phase H e r) y ∙ cond-false _ _ _ (reads ∙ w)
              ∙ moves_from Idle (before ∙ ap (read_phase m f r) y ∙ cond-false _ _ _ w) Idle refl
          flag true w =
              now ∙ ap (read_phase H e r) y ∙ cond-true _ _ _ (reads ∙ w)
              ∙ ap (λ y. Sent (H.parcels e.number (2 * y)) (H.parcels e.number (suc (2 * y)))) (sym z)
              ∙ moves_from (Sent (m.parcels f.number (2 * x)) (m.parcels f.number (suc (2 * x)))) sent _
              (ap₂ (λ p q. Sent p q)
              (left (2 * x) (omega (arith, fits)) ∙ ap moving.taken (stand_first x
              ∙ ap (λ P. ticked (free_at F (2 * x) (first_parcel P)) (hold (2 * x)) (first_parcel P)) sent))
              (left (suc (2 * x)) fits ∙ ap moving.taken (stand_second x
              ∙ ap (λ P. ticked (free_at F (suc (2 * x)) (second_parcel P)) (hold (suc (2 * x))) (second_parcel P))
              sent)))
            where
              sent : F.at x ≡ Sent (m.parcels f.number (2 * x)) (m.parcels f.number (suc (2 * x)))
              sent = before ∙ ap (read_phase m f r) y ∙ cond-true _ _ _ w
                  ∙ ap (λ y. Sent (m.parcels f.number (2 * y)) (m.parcels f.number (suc (2 * y)))) (sym z)

  phases : (x : ℕ) → phase_of H e x ≡ move_at hold F x
  phases x = by (cases_lt x slot_tasks)
    where
      by : (x < slot_tasks) ⊎ (slot_tasks ≤ x) → phase_of H e x ≡ move_at hold F x
      by (inr l) = read_moved x (x - slot_tasks) (omega (arith, l))
      by (inl l) = go (slot_of f.code x) refl
        where
          go : (o : Option Inst) → slot_of f.code x ≡ o → phase_of H e x ≡ move_at hold F x
          go (Some j) s = slot_moved x l j s
          go None s =
              let none : F.at x ≡ Absent = at_slot m f x l ∙ ap (slot_phase m f x) s in
              at_slot H e x l ∙ ap (slot_phase H e x) (ap (λ b. slot_of b x) last.code ∙ s)
              ∙ ap (λ P. moved (free_at F (2 * x) (first_parcel P)) (free_at F (suc (2 * x)) (second_parcel P))
              (hold (2 * x)) (hold (suc (2 * x))) P) (sym none)

  -- what has landed -----------------------------------------------------------------------------------

  task_lands : (x q : ℕ)
      → (lands blocks good budget t f m rule hold (2 * x) q || lands blocks good budget t f m rule hold
      (suc (2 * x)) q)
      ≡ moving.delivers (F.at x) (move_at hold F x) (c.task x) q
  task_lands x q =
      ap₂ (λ b d. b || d)
      (cond-true (2 * x % 2 == 0) _ _ (let par : 2 * x % 2 ≡ 0 = omega arith in eq-eqb (2 * x % 2) 0 par)
      ∙ (let half : 2 * x / 2 ≡ x = omega arith in
      ap (λ y. land_first (F.at y) (c.task y) (stand (2 * x)) q) half)
      ∙ ap (λ s. land_first (F.at x) (c.task x) s q) (stand_first x))
      (cond-false (suc (2 * x) % 2 == 0) _ _ (let par : suc (2 * x) % 2 ≡ 1 = omega arith in
      ne_eqb (suc (2 * x) % 2) 0 (λ z. absurd (omega (arith, par, z))))
      ∙ (let half : suc (2 * x) / 2 ≡ x = omega arith in
      ap (λ y. land_second (F.at y) (c.task y) (stand (suc (2 * x))) q) half)
      ∙ ap (λ s. land_second (F.at x) (c.task x) s q) (stand_second x))
      ∙ go (F.at x)
    where
      go : (P : Phase) → (land_first P (c.task x)
          (ticked (free_at F (2 * x) (first_parcel P)) (hold (2 * x)) (first_parcel P)) q
          || land_second P (c.task x)
          (ticked (free_at F (suc (2 * x)) (second_parcel P)) (hold (suc (2 * x))) (second_parcel P)) q)
          ≡ moving.delivers P (moved (free_at F (2 * x) (first_parcel P)) (free_at F (suc (2 * x)) (second_parcel P))
          (hold (2 * x)) (hold (suc (2 * x))) P) (c.task x) q
      go (Sent a b) = refl
      go Absent = refl
      go Idle = refl
      go Working = refl
      go (Asking s) = refl
      go Standing = refl

  comes : (q : ℕ) → has_come e q ≡ (move_front hold F).come q
  comes q =
      let r = room_is in
      let two : 320 ≡ 2 * room = omega (arith, r) in
      last.come q
      ∙ ap (λ b. F.come q || b) (ap (λ n. any n (λ p. lands blocks good budget t f m rule hold p q)) two
      ∙ any_pairs room (λ p. lands blocks good budget t f m rule hold p q)
      ∙ ap (any room) (fun_ext (λ x. task_lands x q)))

  -- the oldest frame behind its own arrivals
  own_moves : Shows c f H (move_front hold F)
  own_moves = record {
    frame = e;
    younger = last.younger;
    frames = last.frames;
    number = last.number;
    code = last.code;
    stores = last.stores;
    runs = last.runs;
    front = same_front (front_of c H e) (move_front hold F) refl
        (ap (slice_index H.window.generations) last.number ∙ last.generation) (fun_ext phases) (fun_ext comes)
        (ap H.careful last.number ∙ last.careful);
  }

  -- other frames -------------------------------------------------------------------------------------

  others : (gs : List Frame) → Apart e.number gs → (h : Grid W) → Stays blocks good budget e H h
      → Stays blocks good budget e H (arrivals blocks budget (numbers_of gs) h)
  others [] a h b = b
  others (x ∷ gs) a h b = others gs a.1 (each (arrival blocks budget x.number) places h)
      (places_other blocks good budget e H h b.1 b.0 x.number places (omega arith) a.0)

  -- the frames move as the lane does
  pub arrivals_serve : Shows c f (arrivals blocks budget (numbers_of m.window.frames) N) (move_front hold F)
  unfolding own_moves
  arrivals_serve =
      let apart : Apart e.number fs =
      subst (λ n. Apart n fs) (sym last.number) (younger_apart blocks budget m.window f fs ok i) in
      let b = (others fs apart H (
        behind_at e H last.younger last.frames,
        subst (λ n. WindowOk blocks budget (each (arrival blocks budget f.number) n N).window) (sym places_are)
            ((onward 320 (omega arith)).ok ok),
      )).0 in
      subst (λ l. Shows c f (arrivals blocks budget (numbers_of l) N) (move_front hold F)) (sym i) (record {
        frame = e;
        younger = b.younger;
        frames = b.frames;
        number = last.number;
        code = last.code;
        stores = last.stores;
        runs = last.runs;
        front = front_behind c e H (arrivals blocks budget (numbers_of fs) H) b ∙ own_moves.front;
      })
