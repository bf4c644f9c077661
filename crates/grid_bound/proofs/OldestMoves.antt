-- The oldest frame has what the mesh asks: what stands in its places, by each task.
use Rattle.std.proofs.Common.{◌≡◌, ◌≢◌, ℕ, suc, ◌+◌, ◌-◌, ◌*◌, ◌/◌, ◌%◌, ◌<◌, ◌≤◌, ◌==◌, ◌&&◌, ◌||◌, not, Bool, true}
use Rattle.std.proofs.Common.{false}
use Rattle.std.proofs.Common.{cond, nat_lt, ◌⊎◌, inl, inr, List, Option, Some, None, is_some, slice_get, get_or}
use Rattle.std.proofs.Common.{refl, sym, ap, ap₂, ◌∙◌, subst, true≢false, arith}
use Rattle.std.proofs.lemmas.Bool.{lt-ltb, le-ltb}
use Rattle.std.proofs.lemmas.Bool.Decides.{nat_tests}
use Rattle.trips_isa.specs.declared.block.Inst.{Inst}
use Rattle.trips_isa.specs.declared.block.ReadSlot.{ReadSlot}
use Rattle.trips_isa.specs.declared.block.Block.{Block}
use Rattle.trips_isa.specs.declared.form.Form.{Form}
use Rattle.trips_isa.specs.declared.form.Form.TheVariants.{General, Immediate, Load, Store, Branch, Constant}
use Rattle.trips_isa.specs.Forms.{form_of}
use Rattle.trips_isa.specs.Limits.{most_nodes}
use Rattle.block_cases.specs.Orders.{slot_of}
use Rattle.operand_net.specs.declared.parcel.Stand.{Stand}
use Rattle.operand_net.specs.declared.parcel.Stand.TheVariants.{Nowhere, Away, Held}
use Rattle.operand_net.specs.inside.IsStands.{is_here}
use Rattle.commit_flush_spec.specs.Frames.{Frame, at}
use Rattle.commit_flush_spec.specs.Older.{Older}
use Rattle.commit_flush_spec.specs.inside.Invariant.{FrameOk, AllGood}
use Rattle.commit_flush_spec.proofs.Committing.{both_true}
use Rattle.commit_flush_spec.specs.inside.Observers.{has_number}
use Rattle.grid_cycle_spec.specs.Grid.{Grid}
use Rattle.grid_cycle_spec.specs.inside.Arrivals.{is_waiting}
use Rattle.grid_bound.specs.inside.Lane.{Phase, Idle, Working, Asking, Standing, first_parcel, second_parcel}
use Rattle.grid_bound.specs.inside.Blocks.{kind_of, slot_tasks}
use Rattle.grid_bound.specs.inside.Seen.{after_unit, asking, phase_of, read_phase, sent_of, slot_phase}
use Rattle.grid_bound.proofs.Sizes.{slot_tasks_is}
use Rattle.grid_bound.specs.inside.Shows.{QuietReads}
use Rattle.grid_bound.specs.inside.MoveRule.{IsToken, MoveRule, Travels}
use Rattle.grid_bound.specs.inside.UnderWay.{form_travels, Tied, to_come, travels}
use Rattle.grid_bound.specs.inside.Rule.{FrameRule, UnitsRule}
use Rattle.grid_bound.proofs.Travels.{and_none, half_first}
use Rattle.grid_bound.proofs.Travels.{half_second}
use Rattle.grid_bound.proofs.Travels.{is_there, none_travels}
use Rattle.grid_bound.proofs.Travels.{first_low, second_low, sides, waits_for}
use Rattle.grid_bound.proofs.TiedFrames.{Comes, comes, token_comes}
use Rattle.grid_bound.proofs.Oldest

module _ {W : Type 0} (blocks : List Block) (good : AllGood blocks) (o : Older) (g : Grid W) (f : Frame)
    (ok : FrameOk blocks o f) (rule : FrameRule f)
    (tied : Tied (g.parcels f.number) (g.asked f.number) (g.works f.number) f)
    (units : UnitsRule g.units g.works) where
  abbrev n : ℕ
  n = f.number

  abbrev nowhere : (p : ℕ) → p < 320 → travels (g.asked n) (g.works n) f p ≡ false → g.parcels n p ≡ Nowhere
  nowhere = Oldest.nowhere blocks good o g f ok rule tied units

  abbrev slot_small : (s : ℕ) (i : Inst) → slot_of f.code s ≡ Some i → s < 128
  slot_small = Oldest.slot_small blocks good o g f ok rule tied units

  abbrev first_by : (s : ℕ) (i : Inst) (small : s < 128) (is : slot_of f.code s ≡ Some i) → (c t : Bool)
      → to_come (g.asked n) f (form_of i.op) i s ≡ c → is_some (at f.places (2 * s)) ≡ t
      → travels (g.asked n) (g.works n) f (2 * s) ≡ (not (g.works n s) && form_travels (form_of i.op) true c t)
  first_by = Oldest.first_by blocks good o g f ok rule tied units

  abbrev unfired : (s : ℕ) (i : Inst) (small : s < 128) (is : slot_of f.code s ≡ Some i)
      → get_or f.fired s false ≡ false → (g.parcels n (2 * s) ≡ Nowhere) × (g.parcels n (suc (2 * s)) ≡ Nowhere)
  unfired = Oldest.unfired blocks good o g f ok rule tied units

  -- a result is in a unit
  abbrev in_unit : (s : ℕ) (i : Inst) (small : s < 128) (is : slot_of f.code s ≡ Some i) → g.works n s ≡ true
      → (g.parcels n (2 * s) ≡ Nowhere) × (g.parcels n (suc (2 * s)) ≡ Nowhere)
  in_unit = Oldest.in_unit blocks good o g f ok rule tied units

  abbrev first_nowhere : (s : ℕ) (i : Inst) (small : s < 128) (is : slot_of f.code s ≡ Some i) (m : ℕ)
      (waits : at f.requests m ≡ Some s) (had : g.asked n i.number ≡ true)
      (kind : has_number (form_of i.op) ≡ true) → g.parcels n (2 * s) ≡ Nowhere
  first_nowhere = Oldest.first_nowhere blocks good o g f ok rule tied units

  abbrev second_nowhere : (s : ℕ) (i : Inst) (small : s < 128) (is : slot_of f.code s ≡ Some i) (m : ℕ)
      (waits : at f.requests m ≡ Some s) → has_number (form_of i.op) ≡ true → g.parcels n (suc (2 * s)) ≡ Nowhere
  second_nowhere = Oldest.second_nowhere blocks good o g f ok rule tied units

  -- a read of the oldest frame that is not answered has no parcel
  abbrev quiet_reads : QuietReads g f
  quiet_reads = Oldest.quiet_reads blocks good o g f ok rule tied units

  abbrev numbered : (m s : ℕ) → at f.requests m ≡ Some s → (i : Inst) → slot_of f.code s ≡ Some i
      → has_number (form_of i.op) ≡ true
  numbered = Oldest.numbered blocks good o g f ok rule tied units

  -- rows -------------------------------------------------------------------------------------------

  -- what a task's phase has in its two places is what stands there
  abbrev Shown : ℕ → Phase → Type 0
  Shown x ph = (g.parcels n (2 * x) ≡ first_parcel ph) × (g.parcels n (suc (2 * x)) ≡ second_parcel ph)

  module _ (s : ℕ) (i : Inst) (small : s < 128) (is : slot_of f.code s ≡ Some i) where
    asking_shown : at f.requests i.number ≡ Some s → has_number (form_of i.op) ≡ true → (b : Bool)
        → g.asked n i.number ≡ b → Shown s (cond b Standing (Asking (g.parcels n (2 * s))))
    asking_shown w h true e = (first_nowhere s i small is i.number w e h, second_nowhere s i small is i.number w h)
    asking_shown w h false e = (refl, second_nowhere s i small is i.number w h)

    serving_shown : has_number (form_of i.op) ≡ true → (b : Bool) → is_waiting (at f.requests i.number) s ≡ b
        → Shown s (cond b (asking g f s i.number) (sent_of g f s))
    serving_shown h true w = asking_shown (waits_for (at f.requests i.number) s w) h (g.asked n i.number) refl
    serving_shown h false w = (refl, refl)

    after_shown : (k : Form) → form_of i.op ≡ k → Shown s (after_unit g f s i (kind_of k))
    after_shown General e = (refl, refl)
    after_shown Immediate e = (refl, refl)
    after_shown Constant e = (refl, refl)
    after_shown Branch e = (refl, refl)
    after_shown Load e = serving_shown (ap has_number e) (is_waiting (at f.requests i.number) s) refl
    after_shown Store e = serving_shown (ap has_number e) (is_waiting (at f.requests i.number) s) refl

  slot_shown : (s : ℕ) → s < 128 → (q : Option Inst) → slot_of f.code s ≡ q → Shown s (slot_phase g f s q)
  slot_shown s small None is = (
    nowhere (2 * s) (omega (arith, small)) (none_travels (g.asked n) (g.works n) f (2 * s) (first_low s small)
        (ap (slot_of f.code) (half_first s) ∙ is)),
    nowhere (suc (2 * s)) (omega (arith, small)) (none_travels (g.asked n) (g.works n) f (suc (2 * s))
        (second_low s small) (ap (slot_of f.code) (half_second s) ∙ is)),
  )
  slot_shown s small (Some i) is = by (get_or f.fired s false) refl (g.works n s) refl
    where
      by : (b : Bool) → get_or f.fired s false ≡ b → (c : Bool) → g.works n s ≡ c
          → Shown s (cond b (cond c Working (after_unit g f s i (kind_of (form_of i.op)))) Idle)
      by false e c w = unfired s i small is e
      by true e true w = in_unit s i small is w
      by true e false w = after_shown s i small is (form_of i.op) refl

  -- the two places of a read
  unread_none : (r p : ℕ) → r < 32 → (p ≡ 256 + 2 * r) ⊎ (p ≡ suc (256 + 2 * r)) → get_or f.reads r false ≡ false
      → g.parcels n p ≡ Nowhere
  unread_none r p l (inl z) e = ap (g.parcels n) z ∙ (quiet_reads r l e).0
  unread_none r p l (inr z) e = ap (g.parcels n) z ∙ (quiet_reads r l e).1

  read_shown : (r : ℕ) → r < 32 → (q : Option ReadSlot) → slice_get f.code.reads.items r ≡ q
      → Shown (slot_tasks + r) (read_phase g f r q)
  read_shown r l q is = by q is (get_or f.reads r false) refl
    where
      first_place_is : 2 * (slot_tasks + r) ≡ 256 + 2 * r
      first_place_is = let z = slot_tasks_is in omega (arith, z)

      second_place_is : suc (2 * (slot_tasks + r)) ≡ suc (256 + 2 * r)
      second_place_is = let z = slot_tasks_is in omega (arith, z)

      by : (q : Option ReadSlot) → slice_get f.code.reads.items r ≡ q → (b : Bool) → get_or f.reads r false ≡ b
          → Shown (slot_tasks + r) (read_phase g f r q)
      by None i false e = (
        unread_none r (2 * (slot_tasks + r)) l (inl first_place_is) e,
        unread_none r (suc (2 * (slot_tasks + r))) l (inr second_place_is) e,
      )
      by None i true e = absurd (let k = ok.reads r e in
          let bad : None ≡ Some k.slot = sym i ∙ k.is_slot in cc)
      by (Some slot) i false e = subst (λ b. Shown (slot_tasks + r) (cond b (sent_of g f (slot_tasks + r)) Idle))
          (sym e) (
            unread_none r (2 * (slot_tasks + r)) l (inl first_place_is) e,
            unread_none r (suc (2 * (slot_tasks + r))) l (inr second_place_is) e,
          )
      by (Some slot) i true e = subst (λ b. Shown (slot_tasks + r) (cond b (sent_of g f (slot_tasks + r)) Idle))
          (sym e)
          (refl, refl)

  shown : (x : ℕ) → x < most_nodes → Shown x (phase_of g f x)
  shown x l = go (nat_lt x 128) refl
    where
      go : (b : Bool) → nat_lt x 128 ≡ b → Shown x (phase_of g f x)
      go true e =
          let small : x < 128 = grind (arith, nat_tests) in
          let low : nat_lt x slot_tasks ≡ true =
          lt-ltb x slot_tasks (let z = slot_tasks_is in omega (arith, small, z)) in
          subst (λ b. Shown x (cond b (slot_phase g f x (slot_of f.code x))
          (read_phase g f (x - slot_tasks) (slice_get f.code.reads.items (x - slot_tasks))))) (sym low)
          (slot_shown x small (slot_of f.code x) refl)
      go false e =
          let m : 128 ≤ x = grind (arith, nat_tests) in
          let high : nat_lt x slot_tasks ≡ false =
          le-ltb x slot_tasks (let z = slot_tasks_is in omega (arith, m, z)) in
          let at' : slot_tasks + (x - slot_tasks) ≡ x = let z = slot_tasks_is in omega (arith, m, z) in
          subst (λ b. Shown x (cond b (slot_phase g f x (slot_of f.code x))
          (read_phase g f (x - slot_tasks) (slice_get f.code.reads.items (x - slot_tasks))))) (sym high)
          (subst (λ y. Shown y (read_phase g f (x - slot_tasks) (slice_get f.code.reads.items (x - slot_tasks)))) at'
          (read_shown (x - slot_tasks) (let z = slot_tasks_is in omega (arith, l, z))
          (slice_get f.code.reads.items (x - slot_tasks)) refl))

  rows : (p : ℕ) → p < 320 → g.parcels n p
      ≡ cond (p % 2 == 0) (first_parcel (phase_of g f (p / 2))) (second_parcel (phase_of g f (p / 2)))
  rows p l = go (p % 2 == 0) refl
    where
      go : (b : Bool) → (p % 2 == 0) ≡ b → g.parcels n p
          ≡ cond b (first_parcel (phase_of g f (p / 2))) (second_parcel (phase_of g f (p / 2)))
      go true e = ap (g.parcels n) (sides p true e) ∙ (shown (p / 2) (omega (arith, l))).0
      go false e = ap (g.parcels n) (sides p false e) ∙ (shown (p / 2) (omega (arith, l))).1

  -- what a parcel is -------------------------------------------------------------------------------

  here_of : (s : Stand) → s ≢ Nowhere → is_here s ≡ true
  here_of Nowhere h = absurd (h refl)
  here_of (Away t a) h = refl
  here_of (Held t a) h = refl

  token_of : (p : ℕ) → at f.places p ≢ None → IsToken f p
  token_of p h = record { there = h; goes = rule.targets p h }

  module _ (p : ℕ) (k : Comes (g.asked n) (g.works n) f p) where
    so_far : (t : Form) → form_of k.inst.op ≡ t → form_travels t (p % 2 == 0) (to_come (g.asked n) f t k.inst (p / 2))
        (is_some (at f.places p)) ≡ true
    so_far t e = sym (ap (λ z. form_travels z (p % 2 == 0) (to_come (g.asked n) f z k.inst (p / 2))
        (is_some (at f.places p))) e) ∙ k.travels_so

    only_token : (x y : Bool) → x ≡ false → (x || y) ≡ true → y ≡ true
    only_token true y e h = absurd (true≢false e)
    only_token false y e h = h

    travels_form : (t : Form) → form_of k.inst.op ≡ t → Travels f t k.inst p
    travels_form General e = token_of p (is_there (at f.places p) (so_far General e))
    travels_form Immediate e = token_of p (is_there (at f.places p) (so_far Immediate e))
    travels_form Constant e = token_of p (is_there (at f.places p) (so_far Constant e))
    travels_form Load e = λ w. token_of p (is_there (at f.places p) (only_token _ _
        (ap (λ b. (p % 2 == 0) && (b && not (g.asked n k.inst.number))) w ∙ and_none (p % 2 == 0)) (so_far Load e)))
    travels_form Store e = (both_true _ _ (both_true _ _ (so_far Store e)).1).0
    travels_form Branch e = let b = both_true _ _ (so_far Branch e) in
        (waits_for f.leaving (p / 2) b.1, (let c = b.0 in grind (arith, nat_tests)))

  slots : (p : ℕ) (i : Inst) → p < 256 → g.parcels n p ≢ Nowhere → slot_of f.code (p / 2) ≡ Some i
      → Travels f (form_of i.op) i p
  slots p i l h is =
      let k = comes (g.parcels n) (g.asked n) (g.works n) f tied p (omega (arith, l)) (here_of (g.parcels n p) h)
      (lt-ltb p 256 l) in
      let it : k.inst ≡ i = (let y : Some k.inst ≡ Some i = sym k.is_inst ∙ is in cc) in
      subst (λ (j : Inst). Travels f (form_of j.op) j p) it (travels_form p k (form_of k.inst.op) refl)

  reads_tokens : (p : ℕ) → 256 ≤ p → p < 320 → g.parcels n p ≢ Nowhere → IsToken f p
  reads_tokens p m l h = token_of p (token_comes (g.parcels n) (g.asked n) (g.works n) f tied p l
      (here_of (g.parcels n p) h) (le-ltb p 256 m))

  -- a request is on its way
  module _ (s : ℕ) (i : Inst) (small : s < 128) (is : slot_of f.code s ≡ Some i) (rests' : g.works n s ≡ false)
      (waits : is_waiting (at f.requests i.number) s ≡ true) (asked' : g.asked n i.number ≡ false) where
    goes_form : (k : Form) → form_of i.op ≡ k → has_number k ≡ true
        → form_travels (form_of i.op) true (to_come (g.asked n) f (form_of i.op) i s) (is_some (at f.places (2 * s)))
        ≡ true
    goes_form Load e h = ap (λ x. form_travels x true (to_come (g.asked n) f x i s) (is_some (at f.places (2 * s)))) e
        ∙ ap₂ (λ x y. (true && (x && not y)) || is_some (at f.places (2 * s))) waits asked'
    goes_form Store e h =
        ap (λ x. form_travels x true (to_come (g.asked n) f x i s) (is_some (at f.places (2 * s)))) e
        ∙ ap₂ (λ x y. true && (x && not y)) waits asked'
    goes_form General e h = absurd (true≢false (sym h))
    goes_form Immediate e h = absurd (true≢false (sym h))
    goes_form Constant e h = absurd (true≢false (sym h))
    goes_form Branch e h = absurd (true≢false (sym h))

    request_here : has_number (form_of i.op) ≡ true → g.parcels n (2 * s) ≢ Nowhere
    request_here h z = true≢false (sym (tied.travelling (2 * s) (omega (arith, small))
        ∙ first_by s i small is _ _ refl refl ∙ ap₂ (λ x y. not x && y) rests' (goes_form (form_of i.op) refl h))
        ∙ ap is_here z)

  asks_serving : (s : ℕ) (i : Inst) → s < 128 → slot_of f.code s ≡ Some i → g.works n s ≡ false
      → has_number (form_of i.op) ≡ true → (t : Stand) → (b : Bool) → is_waiting (at f.requests i.number) s ≡ b
      → (c : Bool) → g.asked n i.number ≡ c
      → cond b (cond c Standing (Asking (g.parcels n (2 * s)))) (sent_of g f s) ≡ Asking t → t ≢ Nowhere
  asks_serving s i small is w h t false d c k e = absurd (cc)
  asks_serving s i small is w h t true d true k e = absurd (cc)
  asks_serving s i small is w h t true d false k e =
      let it : g.parcels n (2 * s) ≡ t = cc in
      λ z. request_here s i small is w d k h (it ∙ z)

  asks_form : (s : ℕ) (i : Inst) → s < 128 → slot_of f.code s ≡ Some i → g.works n s ≡ false → (t : Stand)
      → (k : Form)
      → form_of i.op ≡ k → after_unit g f s i (kind_of k) ≡ Asking t → t ≢ Nowhere
  asks_form s i small is w t General d e = absurd (cc)
  asks_form s i small is w t Immediate d e = absurd (cc)
  asks_form s i small is w t Constant d e = absurd (cc)
  asks_form s i small is w t Branch d e = absurd (cc)
  asks_form s i small is w t Load d e = asks_serving s i small is w (ap has_number d) t
      (is_waiting (at f.requests i.number) s) refl (g.asked n i.number) refl e
  asks_form s i small is w t Store d e = asks_serving s i small is w (ap has_number d) t
      (is_waiting (at f.requests i.number) s) refl (g.asked n i.number) refl e

  asks_slot : (s : ℕ) (q : Option Inst) → slot_of f.code s ≡ q → (t : Stand) → slot_phase g f s q ≡ Asking t
      → t ≢ Nowhere
  asks_slot s None is t e = absurd (cc)
  asks_slot s (Some i) is t e = by (get_or f.fired s false) (g.works n s) refl e
    where
      by : (b c : Bool) → g.works n s ≡ c
          → cond b (cond c Working (after_unit g f s i (kind_of (form_of i.op)))) Idle ≡ Asking t → t ≢ Nowhere
      by false c w h = absurd (cc)
      by true true w h = absurd (cc)
      by true false w h = asks_form s i (slot_small s i is) is w t (form_of i.op) refl h

  asks_read : (r : ℕ) (q : Option ReadSlot) (t : Stand) → read_phase g f r q ≡ Asking t → t ≢ Nowhere
  asks_read r None t e = absurd (cc)
  asks_read r (Some slot) t e = by (get_or f.reads r false) e
    where
      by : (b : Bool) → cond b (sent_of g f (slot_tasks + r)) Idle ≡ Asking t → t ≢ Nowhere
      by true h = absurd (cc)
      by false h = absurd (cc)

  asks : (x : ℕ) (t : Stand) → phase_of g f x ≡ Asking t → t ≢ Nowhere
  asks x t e = by (nat_lt x slot_tasks) e
    where
      by : (b : Bool) → cond b (slot_phase g f x (slot_of f.code x))
          (read_phase g f (x - slot_tasks) (slice_get f.code.reads.items (x - slot_tasks))) ≡ Asking t → t ≢ Nowhere
      by true h = asks_slot x (slot_of f.code x) refl t h
      by false h = asks_read (x - slot_tasks) (slice_get f.code.reads.items (x - slot_tasks)) t h

  -- the oldest frame has what the mesh asks
  pub move_rule : MoveRule g f
  move_rule = record {
    rows = rows;
    slots = slots;
    reads = reads_tokens;
    asks = asks;
    numbered = numbered;
  }
