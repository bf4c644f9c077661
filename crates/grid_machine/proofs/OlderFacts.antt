-- Whether the stores before a number of a frame are resolved, found by a walk from the oldest frame on.
use Rattle.std.proofs.Common.{◌≡◌, ℕ, zero, suc, ◌+◌, ◌<◌, ◌≤◌, ◌==◌, Bool, true, false, cond, not, ◌&&◌, ◌||◌, List}
use Rattle.std.proofs.Common.{[], ◌∷◌, Some, length, drop, slice_get, is_some, refl, sym, ap, ap₂, ◌∙◌}
use Rattle.std.proofs.Common.{arith}
use Rattle.std.proofs.lemmas.Option.{same_Some}
use Rattle.trips_isa.specs.declared.block.Block.{Block}
use Rattle.trips_isa.specs.Places.{in_mask}
use Rattle.commit_flush_spec.specs.Ends.{all_below, store_came}
use Rattle.commit_flush_spec.specs.Frames.{Frame, at, numbers}
use Rattle.commit_flush.specs.Places.{numbers_of}
use Rattle.frame_state.specs.inside.Held.{Held, as_frame}
use Rattle.commit_flush.specs.inside.Lent.{IsLent}
use Rattle.grid_cycle_spec.specs.DataTiles.{all_resolved}
use Rattle.lsq_order.proofs.WrongFacts.{numbers_are}
use Rattle.grid_machine.specs.inside.Named.{is_named}

-- frames by age ----------------------------------------------------------------------------------

-- the frames from an age on are the frame of this age and those behind it
pub drop_here : (fs : List Frame) (a : ℕ) (f : Frame) → slice_get fs a ≡ Some f → drop a fs ≡ f ∷ drop (suc a) fs
drop_here [] a f e = absurd (cc)
drop_here (g ∷ gs) zero f e = let same : g ≡ f = cc in ap (λ h. h ∷ gs) same
drop_here (g ∷ gs) (suc a) f e = drop_here gs a f e

-- past the last age there are no frames
pub drop_past : (fs : List Frame) (a : ℕ) → length fs ≤ a → drop a fs ≡ []
drop_past [] zero l = refl
drop_past [] (suc a) l = refl
drop_past (g ∷ gs) zero l = absurd (omega arith)
drop_past (g ∷ gs) (suc a) l = drop_past gs a (omega arith)

-- at an age below the count of frames there is a frame
pub frame_there : (fs : List Frame) (a : ℕ) → a < length fs → (f : Frame) × (slice_get fs a ≡ Some f)
frame_there [] a l = absurd (omega arith)
frame_there (g ∷ gs) zero l = (g, refl)
frame_there (g ∷ gs) (suc a) l = frame_there gs a (omega arith)

pub is_named_by : (fs : List Frame) (a m : ℕ) (f : Frame) → slice_get fs a ≡ Some f
    → is_named (slice_get (numbers_of fs) a) m ≡ (f.number == m)
is_named_by [] a m f e = absurd (cc)
is_named_by (g ∷ gs) zero m f e = let same : g ≡ f = cc in ap (λ (h : Frame). h.number == m) same
is_named_by (g ∷ gs) (suc a) m f e = is_named_by gs a m f e

-- what is lent of the frame of an age is of that frame
pub lent_at : (fs : List Frame) (a : ℕ) (h : Held) (b : Block) (l : IsLent h b (slice_get fs a)) (f : Frame)
    → slice_get fs a ≡ Some f → as_frame l.0 b h ≡ f
lent_at fs a h b l f e = same_Some (as_frame l.0 b h) f (sym l.1 ∙ e)

-- stores -----------------------------------------------------------------------------------------

same_below : (p q : ℕ → Bool) (n : ℕ) → ((k : ℕ) → p k ≡ q k) → all_below p n ≡ all_below q n
same_below p q zero h = refl
same_below p q (suc n) h = ap₂ (λ a b. a && b) (h n) (same_below p q n h)

-- the stores that came of what is lent
pub came_told : (fs : List Frame) (a k : ℕ) (h : Held) (b : Block) → IsLent h b (slice_get fs a) → (x : Bool)
    → x ≡ all_below (λ n. not (in_mask b.mask n) || is_some (at h.stores n)) k → (f : Frame) → slice_get fs a ≡ Some f
    → x ≡ all_below (store_came f) k
came_told fs a k h b l x is f e =
    is
    ∙ same_below (λ n. not (in_mask b.mask n) || is_some (at h.stores n)) (store_came (as_frame l.0 b h)) k
    (λ n. refl)
    ∙ ap (λ g. all_below (store_came g) k) (lent_at fs a h b l f e)

module _ (m n a : ℕ) (fs : List Frame) (so_far : all_resolved m n (drop a fs) ≡ all_resolved m n fs) where
  -- at its own frame
  pub settles_here : (f : Frame) → slice_get fs a ≡ Some f → (f.number == m) ≡ true → (x : Bool)
      → x ≡ all_below (store_came f) n → x ≡ all_resolved m n fs
  settles_here f e own x is =
      is
      ∙ sym (ap (λ b. cond b (all_below (store_came f) n) (all_below (store_came f) numbers
      && all_resolved m n (drop (suc a) fs))) own)
      ∙ sym (ap (all_resolved m n) (drop_here fs a f e)) ∙ so_far

  -- at an older one whose stores came
  pub settles_later : (f : Frame) → slice_get fs a ≡ Some f → (f.number == m) ≡ false
      → all_below (store_came f) numbers ≡ true → all_resolved m n (drop (a + 1) fs) ≡ all_resolved m n fs
  settles_later f e other came =
      let next : a + 1 ≡ suc a = omega arith in
      ap (λ k. all_resolved m n (drop k fs)) next
      ∙ sym (ap (λ b. b && all_resolved m n (drop (suc a) fs)) came)
      ∙ sym (ap (λ b. cond b (all_below (store_came f) n) (all_below (store_came f) numbers
      && all_resolved m n (drop (suc a) fs))) other)
      ∙ sym (ap (all_resolved m n) (drop_here fs a f e)) ∙ so_far

  -- at one that lacks some
  pub settles_never : (f : Frame) → slice_get fs a ≡ Some f → (f.number == m) ≡ false
      → all_below (store_came f) numbers ≡ false → false ≡ all_resolved m n fs
  settles_never f e other lacks =
      sym (ap (λ b. b && all_resolved m n (drop (suc a) fs)) lacks ∙ none (all_resolved m n (drop (suc a) fs)))
      ∙ sym (ap (λ b. cond b (all_below (store_came f) n) (all_below (store_came f) numbers
      && all_resolved m n (drop (suc a) fs))) other)
      ∙ sym (ap (all_resolved m n) (drop_here fs a f e)) ∙ so_far
    where
      none : (b : Bool) → (false && b) ≡ false
      none true = refl
      none false = refl

  -- and behind the youngest
  pub settles_nowhere : length fs ≤ a → false ≡ all_resolved m n fs
  settles_nowhere l = sym (ap (all_resolved m n) (drop_past fs a l)) ∙ so_far

-- a walk that asks for the frame of an age
module _ (m n a : ℕ) (fs : List Frame) (so_far : all_resolved m n (drop a fs) ≡ all_resolved m n fs)
    (l : a < length fs)
    (named : Bool) (is : named ≡ is_named (slice_get (numbers_of fs) a) m) where
  abbrev there : (f : Frame) × (slice_get fs a ≡ Some f)
  there = frame_there fs a l

  abbrev tests : named ≡ (there.0.number == m)
  tests = is ∙ is_named_by fs a m there.0 there.1

  -- at the frame of the number the walk ends: the older stores are resolved where the frame's own lower ones
  -- are
  pub walk_here : named ≡ true → (x : Bool)
      → ((f : Frame) → slice_get fs a ≡ Some f → x ≡ all_below (store_came f) n) → x ≡ all_resolved m n fs
  walk_here own x came = settles_here m n a fs so_far there.0 there.1 (sym tests ∙ own) x (came there.0 there.1)

  -- where all stores of an older frame are resolved, the walk goes on behind it
  pub walk_on : named ≡ false → (k : ℕ) → k ≡ 32
      → ((f : Frame) → slice_get fs a ≡ Some f → true ≡ all_below (store_came f) k)
      → all_resolved m n (drop (a + 1) fs) ≡ all_resolved m n fs
  walk_on other k e came =
      settles_later m n a fs so_far there.0 there.1 (sym tests ∙ other)
      (ap (all_below (store_came there.0)) (numbers_are ∙ sym e) ∙ sym (came there.0 there.1))

  -- where not all stores of an older frame are resolved, those before the number are not
  pub walk_stops : named ≡ false → (k : ℕ) → k ≡ 32
      → ((f : Frame) → slice_get fs a ≡ Some f → false ≡ all_below (store_came f) k) → false ≡ all_resolved m n fs
  walk_stops other k e came =
      settles_never m n a fs so_far there.0 there.1 (sym tests ∙ other)
      (ap (all_below (store_came there.0)) (numbers_are ∙ sym e) ∙ sym (came there.0 there.1))
