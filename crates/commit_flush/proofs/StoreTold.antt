-- What is found of a store that is done, before it is resolved.
use Rattle.std.proofs.Common.{◌≡◌, ℕ, zero, suc, ◌+◌, ◌<◌, ◌≤◌, inl, inr, Bool, true, false, cond, not, List, ◌∷◌}
use Rattle.std.proofs.Common.{[], Option, Some, None, length, set, drop, slice_get, refl, sym, ap, ◌∙◌, subst}
use Rattle.std.proofs.Common.{arith, true≢false}
use Rattle.std.specs.Prelude.{is_some}
use Rattle.std.proofs.lemmas.Bool.{cases_lt}
use Rattle.std.proofs.lemmas.Option.{none-some}
use Rattle.std.proofs.Math.Path.{fun_ext}
use Rattle.trips_isa.specs.declared.block.Image.{Image}
use Rattle.trips_isa.specs.declared.block.Inst.{Inst}
use Rattle.trips_isa.specs.declared.run.Stepped.{Stepped}
use Rattle.trips_isa.specs.Forms.{is_store}
use Rattle.trips_isa.specs.Machine.{Machine}
use Rattle.commit_flush_spec.specs.Causes.{NoFrame, NoRequest, Done}
use Rattle.commit_flush_spec.specs.Frames.{Frame, at, numbers}
use Rattle.commit_flush_spec.specs.Older.{Older, committed, covers, nearest}
use Rattle.commit_flush_spec.specs.InFlight.{Window}
use Rattle.commit_flush_spec.specs.Memory.{can_store, is_request, request, with_inst}
use Rattle.commit_flush_spec.specs.inside.Numbered.{seen_at}
use Rattle.commit_flush_spec.specs.Dropping.{left_by, store_left, untouched}
use Rattle.commit_flush_spec.specs.Window.{can, can_now}
use Rattle.commit_flush_spec.specs.Window as event
use Rattle.commit_flush_spec.proofs.Frames.{not_now}
use Rattle.reg_bank.specs.inside.Ages.{Ages}
use Rattle.lsq_order.specs.inside.Reached.{FitsReach, narrowed}
use Rattle.lsq_order.specs.inside.Wrong.{Finds}
use Rattle.lsq_order.proofs.WrongFacts.{found_is, left_is}
use Rattle.commit_flush.specs.inside.Places.{age_of, frame_of}
use Rattle.commit_flush.proofs.FrameFacts.{frame_ok, of_age}
use Rattle.frame_state.specs.declared.phase.Phase.{Phase}
use Rattle.frame_state.specs.inside.Told.{stored_by, waiting_store}
use Rattle.commit_flush.specs.Seen.{Seen}
use Rattle.commit_flush.specs.inside.Seen.{IsSound, window_of}
use Rattle.commit_flush.proofs.PhaseFacts.{seen}
use Rattle.commit_flush.proofs.AskFacts.{goes_on, there}
use Rattle.commit_flush.proofs.MoveFacts.{inside}
use Rattle.commit_flush.proofs.LoadFacts.{fits_reach}
use Rattle.commit_flush.proofs.StoreFacts.{left_from, one_untouched, store_leaves_by}

-- the store that waits has at most eight bytes
pub fits_waiting : (m : ℕ) (z : Option Frame) → FitsReach (waiting_store m z)
fits_waiting m None = tt
fits_waiting m (Some f) = go (request f m)
  where
    go : (r : Option (ℕ × Inst)) → FitsReach (stored_by f r)
    go None = tt
    go (Some q) = fits_reach q.1 (at f.spots q.0) (at f.spots (128 + q.0))

none_past : (xs : List (Option ℕ)) (n : ℕ) → length xs ≤ n → at xs n ≡ None
none_past [] n l = refl
none_past (x ∷ xs) zero l = absurd (omega arith)
none_past (x ∷ xs) (suc n) l = none_past xs n (omega arith)

-- a store that is done waits
store_waits : (m : ℕ) (o : Older) (f : Frame) → can_store m o f ≡ Done → (q : ℕ × Inst) × (request f m ≡ Some q)
store_waits m o f d =
    go (request f m) refl
    (not_now (not (is_request is_store (request f m))) NoRequest _ (not_now f.sealed NoFrame _ d).1).0
  where
    go : (r : Option (ℕ × Inst)) → request f m ≡ r → not (is_request is_store (request f m)) ≡ false
        → (q : ℕ × Inst) × (request f m ≡ Some q)
    go None w n = absurd (true≢false (sym (ap (λ r. not (is_request is_store r)) w) ∙ n))
    go (Some q) w n = (q, w)

waits_below : (m : ℕ) (f : Frame) (q : ℕ × Inst) → length f.requests ≡ 32 → request f m ≡ Some q → m < 32
waits_below m f q size is = elim (cases_lt m 32) [
  | inl l ↦ l
  | inr l ↦ absurd (none-some q (sym (ap (with_inst f.code) (none_past f.requests m (omega (arith, size, l)))) ∙ is))
]

-- the frame of a store that is done
pub record StoreFound (v : Seen) (n a m : ℕ) : Type 0 where
  pub frame : Frame
  pub is_frame : frame_of n v.window.frames ≡ Some frame
  pub aged : age_of n v.window.frames ≡ Some a
  pub at_age : slice_get v.window.frames a ≡ Some frame
  pub inst : ℕ × Inst
  pub waits : request frame m ≡ Some inst
  pub number : m < 32
  pub stores : length frame.stores ≡ 32
  pub loads : length frame.loads ≡ 32

module _ {image : Image} {budget : ℕ} {machine : Machine} {over : Stepped} {phases : List Phase} {order : List ℕ}
    {registers : Ages} (s : IsSound image budget machine over phases order registers) where
  abbrev old : Window
  old = window_of image.blocks machine.state over phases order

  -- of a store that may be done its frame, its number and its bytes are found
  pub store_found : (n a m : ℕ) (v : Seen) → seen s ≡ v
      → can v.image.blocks v.budget (event.Store n m) v.window ≡ Done → age_of n v.window.frames ≡ Some a
      → StoreFound v n a m
  store_found n a m v w d age =
      let d2 = inside s (event.Store n m) v w d in
      let age2 : age_of n old.frames ≡ Some a = ap (λ (z : Seen). age_of n z.window.frames) w ∙ age in
      let t = there NoFrame (can_store m) n old.frames (committed machine.state)
      (goes_on over (can_now image.blocks budget (event.Store n m) old) d2) in
      let at_age : slice_get old.frames a ≡ Some t.0 = sym (of_age n old.frames a age2) ∙ t.1 in
      let ok = frame_ok image.blocks old.frames (committed machine.state) s.window.frames a t.0 at_age in
      let waits = store_waits m (seen_at (committed machine.state) old.frames n) t.0 t.2 in
      subst (λ (z : Seen). StoreFound z n a m) w (record {
        frame = t.0;
        is_frame = t.1;
        aged = age2;
        at_age = at_age;
        inst = waits.0;
        waits = waits.1;
        number = waits_below m t.0 waits.0 ok.sized.requests waits.1;
        stores = ok.sized.stores;
        loads = ok.sized.loads;
      })

  -- each frame has room for 32 loads
  pub sized_at : (v : Seen) → seen s ≡ v → (a : ℕ) (f : Frame) → slice_get v.window.frames a ≡ Some f
      → length f.loads ≡ 32
  sized_at v w a f e =
      (frame_ok image.blocks old.frames (committed machine.state) s.window.frames a f
      (ap (λ (z : Seen). slice_get z.window.frames a) w ∙ e)).sized.loads

-- how many of the younger frames are left, one frame more
module _ (fs : List Frame) (a : ℕ) (f : Frame) (touched : ℕ → Bool) (found : Option ℕ) (e : slice_get fs a ≡ Some f)
    (size : length f.loads ≡ 32) (finds : Finds (at f.stores) f.loads touched 0 found) (left : ℕ → Bool)
    (is : found ≡ None → (x : ℕ) → left x ≡ narrowed (at f.stores) 0 numbers touched x) where
  one_more : untouched touched (drop a fs) ≡ cond (is_some found) 0 (suc (untouched left (drop (suc a) fs)))
  one_more = one_untouched fs a f touched found left e
      (found_is (at f.stores) f.loads touched 0 found finds refl size)
      (λ h x. is h x ∙ left_is (at f.stores) touched 0 x refl)

  -- where no load of a frame took a touched byte, the count of frames that are left goes on behind it
  pub more_left : is_some found ≡ false
      → a + untouched touched (drop a fs) ≡ (a + 1) + untouched left (drop (a + 1) fs)
  more_left h =
      let next : suc a ≡ a + 1 = omega arith in
      let k = untouched left (drop (suc a) fs) in
      let sum : a + suc k ≡ (a + 1) + k = omega arith in
      ap (λ j. a + j) (one_more ∙ ap (λ b. cond b 0 (suc k)) h)
      ∙ sum ∙ ap (λ j. (a + 1) + untouched left (drop j fs)) next

  -- where a load of a frame took a touched byte, the count of frames that are left ends before it
  pub none_left : is_some found ≡ true → a + untouched touched (drop a fs) ≡ a
  none_left h =
      let none : a + 0 ≡ a = omega arith in
      ap (λ j. a + j) (one_more ∙ ap (λ b. cond b 0 (suc (untouched left (drop (suc a) fs)))) h) ∙ none

-- past the last frame none is left
pub past_all : (touched : ℕ → Bool) (fs : List Frame) (a count : ℕ) {all : ℕ} → (a ≡ length fs) × (count ≡ length fs)
    → all ≡ a + untouched touched (drop a fs) → count ≡ all
past_all touched fs a count e is =
    let none : a + 0 ≡ count = (let x = e.0 in let y = e.1 in omega (arith, x, y)) in
    sym (is ∙ ap (λ k. a + untouched touched (drop k fs)) e.0 ∙ ap (λ xs. a + untouched touched xs)
    (drop_all fs) ∙ none)
  where
    drop_all : (xs : List Frame) → drop (length xs) xs ≡ []
    drop_all [] = refl
    drop_all (x ∷ xs) = drop_all xs

-- how many frames it leaves, by what is found in its own frame
module _ (v : Seen) (n a m : ℕ) (t : StoreFound v n a m) (touched : ℕ → Bool) (found : Option ℕ)
    (same : (x : ℕ) → touched x ≡ covers (waiting_store m (frame_of n v.window.frames)) x)
    (finds : Finds (at t.frame.stores) t.frame.loads touched (m + 1) found) where
  abbrev rest : List Frame
  rest = drop (suc a) v.window.frames

  abbrev leaves : (store_left m (seen_at (committed v.window.state) v.window.frames n) t.frame rest
      ≡ cond (is_some found) 0
      (suc (untouched (nearest (at (set t.frame.stores m (waiting_store m (Some t.frame)))) m numbers) rest)))
      × ((x : ℕ) → narrowed (at t.frame.stores) (m + 1) numbers touched x
      ≡ nearest (at (set t.frame.stores m (waiting_store m (Some t.frame)))) m numbers x)
  leaves = store_leaves_by m t.frame t.inst (seen_at (committed v.window.state) v.window.frames n) rest touched found
      t.waits (let l = t.number in let e = t.stores in omega (arith, l, e)) t.loads t.number
      (λ x. same x ∙ ap (λ z. covers (waiting_store m z) x) t.is_frame) finds

  abbrev all_left : left_by (store_left m) (committed v.window.state) v.window.frames n
      ≡ a + store_left m (seen_at (committed v.window.state) v.window.frames n) t.frame rest
  all_left = left_from (store_left m) (committed v.window.state) v.window.frames n a t.frame t.aged t.at_age

  -- where one of its own loads is wrong
  pub own_wrong : is_some found ≡ true → a ≡ left_by (store_left m) (committed v.window.state) v.window.frames n
  own_wrong h =
      let none : a ≡ a + 0 = omega arith in
      none ∙ sym (all_left ∙ ap (λ k. a + k) (leaves.0 ∙ ap (λ b. cond b 0
      (suc (untouched (nearest (at (set t.frame.stores m (waiting_store m (Some t.frame)))) m numbers) rest))) h))

  -- else by what is found in the younger
  pub own_right : is_some found ≡ false → (left : ℕ → Bool)
      → ((x : ℕ) → left x ≡ narrowed (at t.frame.stores) (m + 1) numbers touched x)
      → (a + 1) + untouched left (drop (a + 1) v.window.frames)
      ≡ left_by (store_left m) (committed v.window.state) v.window.frames n
  own_right h left is =
      let next : a + 1 ≡ suc a = omega arith in
      let k = untouched left (drop (a + 1) v.window.frames) in
      let sum : (a + 1) + k ≡ a + suc k = omega arith in
      sum ∙ ap (λ j. a + suc (untouched left (drop j v.window.frames))) next
      ∙ ap (λ g. a + suc (untouched g rest)) (fun_ext (λ x. is x ∙ leaves.1 x))
      ∙ sym (all_left ∙ ap (λ j. a + j) (leaves.0 ∙ ap (λ b. cond b 0
      (suc (untouched (nearest (at (set t.frame.stores m (waiting_store m (Some t.frame)))) m numbers) rest))) h))
