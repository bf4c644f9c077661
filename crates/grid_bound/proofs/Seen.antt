-- What the lane sees of a frame is what the window says of it.
use Rattle.std.proofs.Common.{◌≡◌, ℕ, zero, suc, ◌+◌, ◌-◌, ◌<◌, ◌≤◌, Bool, true, false, cond, ◌&&◌, ◌||◌, not, nat_lt}
use Rattle.std.proofs.Common.{List, [], ◌∷◌, ◌++◌, length, Option, Some, None}
use Rattle.std.proofs.Common.{is_some, slice_get, slice_index_or, refl}
use Rattle.std.proofs.Common.{sym, ap, ap₂, ◌∙◌, arith}
use Rattle.std.proofs.lemmas.Bool.{cond-true, cond-false, lt-ltb, le-ltb}
use Rattle.trips_isa.specs.declared.block.ReadSlot.{ReadSlot}
use Rattle.trips_isa.specs.Rule.{Answer}
use Rattle.trips_isa.specs.Places.{in_mask}
use Rattle.commit_flush_spec.specs.Frames.{Frame, at}
use Rattle.commit_flush_spec.specs.Ends.{all_below, write_came, store_came}
use Rattle.commit_flush_spec.specs.Ends as ends
use Rattle.commit_flush_spec.specs.inside.Observers.{is_unread}
use Rattle.commit_flush_spec.proofs.Stuck.{numbers_are}
use Rattle.grid_cycle_spec.specs.Grid.{Grid}
use Rattle.grid_bound.specs.inside.Course.{is_reading}
use Rattle.grid_bound.specs.inside.Lane.{Phase, Idle, is_idle, all_come, unread, complete}
use Rattle.grid_bound.specs.inside.Blocks.{slot_tasks, if_so, numbers_in, writes_of, read_task, course_of}
use Rattle.grid_bound.specs.inside.Seen.{sent_of, read_phase, phase_of, has_come, front_of}
use Rattle.grid_bound.proofs.Sizes.{read_is}

and_assoc : (a b c : Bool) → (a && (b && c)) ≡ ((a && b) && c)
and_assoc true b c = refl
and_assoc false b c = refl

and_true : (a : Bool) → (a && true) ≡ a
and_true true = refl
and_true false = refl

all_append : (come : ℕ → Bool) (ps qs : List ℕ) → all_come come (ps ++ qs) ≡ (all_come come ps && all_come come qs)
all_append come [] qs = refl
all_append come (p ∷ ps) qs = ap (λ b. come p && b) (all_append come ps qs)
    ∙ and_assoc (come p) (all_come come ps) (all_come come qs)

-- outputs -----------------------------------------------------------------------------------------

module _ (f : Frame) where
  write_seen : (w : ℕ) → w < 32 → has_come f (384 + w) ≡ write_came f w
  write_seen w l = cond-true (nat_lt (384 + w) 416) _ _ (lt-ltb (384 + w) 416 (omega (arith, l)))

  pub store_seen : (n : ℕ) → n < 32 → has_come f (416 + n) ≡ is_some (at f.stores n)
  store_seen n l =
      let e : 416 + n - 416 ≡ n = omega arith in
      cond-false (nat_lt (416 + n) 416) _ _ (le-ltb (416 + n) 416 (omega arith))
      ∙ cond-true (nat_lt (416 + n) 448) _ _ (lt-ltb (416 + n) 448 (omega (arith, l)))
      ∙ ap (λ k. is_some (at f.stores k)) e

  writes_seen : (n : ℕ) → n ≤ 32 → all_come (has_come f) (writes_of n) ≡ all_below (write_came f) n
  writes_seen zero l = refl
  writes_seen (suc n) l = ap₂ (λ a b. a && b) (write_seen n (omega (arith, l))) (writes_seen n (omega (arith, l)))

  -- all numbers of the mask below n have come to the lane exactly where they have in the window
  pub numbers_seen : (n : ℕ) → n ≤ 32 → all_come (has_come f) (numbers_in f.code.mask n) ≡ all_below (store_came f) n
  numbers_seen zero l = refl
  numbers_seen (suc n) l = go (in_mask f.code.mask n)
      ∙ ap (λ b. store_came f n && b) (numbers_seen n (omega (arith, l)))
    where
      go : (b : Bool) → all_come (has_come f) (if_so b (416 + n) (numbers_in f.code.mask n))
          ≡ ((not b || is_some (at f.stores n)) && all_come (has_come f) (numbers_in f.code.mask n))
      go true = ap (λ b. b && all_come (has_come f) (numbers_in f.code.mask n)) (store_seen n (omega (arith, l)))
      go false = refl

module _ {W : Type 0} (g : Grid W) (f : Frame) (t : ℕ → Answer) where
  -- all outputs of the lane's frame have come exactly where the window's are
  pub complete_seen : length f.code.writes.items ≤ 32
      → complete (front_of (course_of f.code t) g f) ≡ ends.complete f
  complete_seen l =
      all_append (has_come f) (writes_of (length f.code.writes.items)) (numbers_in f.code.mask 32 ++ 448 ∷ [])
      ∙ ap₂ (λ a b. a && b) (writes_seen f (length f.code.writes.items) l)
      (all_append (has_come f) (numbers_in f.code.mask 32) (448 ∷ [])
      ∙ ap₂ (λ a b. a && b)
      (numbers_seen f 32 (omega arith) ∙ ap (all_below (store_came f)) (sym numbers_are))
      (and_true (is_some f.exit)))

  read_phase_seen : (r : ℕ) → phase_of g f (slot_tasks + r) ≡ read_phase g f r (slice_get f.code.reads.items r)
  read_phase_seen r =
      let e : slot_tasks + r - slot_tasks ≡ r = omega arith in
      cond-false (nat_lt (slot_tasks + r) slot_tasks) _ _ (le-ltb (slot_tasks + r) slot_tasks (omega arith))
      ∙ ap (λ k. read_phase g f k (slice_get f.code.reads.items k)) e

  -- a read is unread in the lane where the window says so
  pub unread_seen : f.sealed ≡ false → (r : ℕ)
      → unread (front_of (course_of f.code t) g f) (slot_tasks + r) ≡ is_unread f r
  unread_seen open' r =
      ap₂ (λ w k. is_idle w && is_reading k) (read_phase_seen r) (ap (λ x. x.kind) (read_is f.code t r))
      ∙ go (slice_get f.code.reads.items r)
      ∙ sym (ap (λ b. not b && (is_some (slice_get f.code.reads.items r) && not (slice_index_or f.reads r false)))
      open')
    where
      by : (b : Bool) (p : Phase) → is_idle p ≡ false
          → (is_idle (cond b p Idle) && true) ≡ not b
      by true p e = ap (λ b. b && true) e
      by false p e = refl

      go : (o : Option ReadSlot) → (is_idle (read_phase g f r o) && is_reading (read_task f.code o).kind)
          ≡ (is_some o && not (slice_index_or f.reads r false))
      go None = refl
      go (Some slot) = by (slice_index_or f.reads r false) (sent_of g f (slot_tasks + r)) refl
