-- How many frames a store leaves, as it is found before the store is resolved.
use Rattle.std.proofs.Common.{◌≡◌, ℕ, zero, suc, ◌+◌, ◌<◌, ◌≤◌, Bool, true, false, cond, not}
use Rattle.std.proofs.Common.{◌&&◌, ◌==◌, nat_lt, List}
use Rattle.std.proofs.Common.{[], ◌∷◌, Option, Some, None, length, set, drop, slice_get, refl, sym, ap, ap₂, ◌∙◌}
use Rattle.std.proofs.Common.{arith}
use Rattle.std.specs.Prelude.{is_some}
use Rattle.std.proofs.Math.Path.{fun_ext}
use Rattle.trips_isa.specs.declared.block.Inst.{Inst}
use Rattle.trips_isa.specs.declared.block.Stored.{Stored}
use Rattle.commit_flush_spec.specs.Frames.{Frame, Taken, at, numbers}
use Rattle.commit_flush_spec.specs.Older.{Older, after, covers, nearest, passes, violated, took_touched}
use Rattle.commit_flush_spec.specs.Memory.{request}
use Rattle.commit_flush_spec.specs.inside.Numbered.{seen_at}
use Rattle.frame_state.specs.inside.Told.{stored_by, waiting_store}
use Rattle.commit_flush_spec.specs.Dropping.{left_by, untouched, store_left, resolved_leaves}
use Rattle.commit_flush_spec.proofs.Lists.{other_at, set_here}
use Rattle.lsq_order.specs.inside.Reached.{narrowed}
use Rattle.lsq_order.specs.inside.Wrong.{Finds}
use Rattle.lsq_order.proofs.WrongFacts.{own_found, own_left}
use Rattle.commit_flush.specs.inside.Places.{later, age_of}
use Rattle.commit_flush.proofs.NumberTests.{not_below_is}

-- only the stores from a number on are looked at
pub narrowed_same : (p q : ℕ → Option Stored) (from n : ℕ) (touched : ℕ → Bool) (a : ℕ)
    → ((k : ℕ) → from ≤ k → p k ≡ q k) → narrowed p from n touched a ≡ narrowed q from n touched a
narrowed_same p q from zero touched a h = refl
narrowed_same p q from (suc n) touched a h = go (nat_lt n from) refl (narrowed_same p q from n touched a h)
  where
    go : (b : Bool) → nat_lt n from ≡ b → narrowed p from n touched a ≡ narrowed q from n touched a
        → cond b (touched a) (not (covers (p n) a) && narrowed p from n touched a)
        ≡ cond b (touched a) (not (covers (q n) a) && narrowed q from n touched a)
    go true z r = refl
    go false z r = ap₂ (λ s b. not (covers s a) && b) (h n (not_below_is n from z)) r

-- a search for wrong loads hangs on the stores from its beginning on alone
pub finds_same : (p q : ℕ → Option Stored) (loads : List (Option Taken)) (touched : ℕ → Bool) (from : ℕ)
    (o : Option ℕ)
    → ((k : ℕ) → from ≤ k → p k ≡ q k) → Finds p loads touched from o → Finds q loads touched from o
finds_same p q loads touched from None h f =
    λ m l k. ap (λ g. took_touched g (at loads m)) (fun_ext (λ a. sym (narrowed_same p q from m touched a h)))
    ∙ f m l k
finds_same p q loads touched from (Some n) h f = record {
  from_on = f.from_on;
  below = f.below;
  wrong = ap (λ g. took_touched g (at loads n)) (fun_ext (λ a. sym (narrowed_same p q from n touched a h))) ∙ f.wrong;
  lowest = λ m l k.
      ap (λ g. took_touched g (at loads m)) (fun_ext (λ a. sym (narrowed_same p q from m touched a h)))
      ∙ f.lowest m l k;
}

-- how many frames a change leaves, of the frame of an age and those behind it
pub left_from : (left : Older → Frame → List Frame → ℕ) (o : Older) (fs : List Frame) (n a : ℕ) (f : Frame)
    → age_of n fs ≡ Some a → slice_get fs a ≡ Some f
    → left_by left o fs n ≡ a + left (seen_at o fs n) f (drop (suc a) fs)
left_from left o [] n a f e w = absurd (cc)
left_from left o (g ∷ gs) n a f e w =
    go (g.number == n) e (age_of n gs) refl (λ k q u. left_from left (after g o) gs n k f q u)
  where
    go : (b : Bool) → cond b (Some 0) (later (age_of n gs)) ≡ Some a → (p : Option ℕ) → age_of n gs ≡ p
        → ((k : ℕ) → age_of n gs ≡ Some k → slice_get gs k ≡ Some f → left_by left (after g o) gs n
        ≡ k + left (seen_at (after g o) gs n) f (drop (suc k) gs))
        → cond b (left o g gs) (suc (left_by left (after g o) gs n))
        ≡ a + left (cond b o (seen_at (after g o) gs n)) f (drop (suc a) (g ∷ gs))
    go true u p q rest =
        let here : 0 ≡ a = cc in
        let same : g ≡ f = (let both : Some g ≡ Some f = ap (slice_get (g ∷ gs)) here ∙ w in cc) in
        let first : left o g gs ≡ 0 + left o g gs = omega arith in
        first ∙ ap (λ h. 0 + left o h gs) same ∙ ap (λ k. k + left o f (drop (suc k) (g ∷ gs))) here
    go false u None q rest = absurd (let bad : None ≡ Some a = sym (ap later q) ∙ u in cc)
    go false u (Some k) q rest =
        let both : Some (suc k) ≡ Some a = sym (ap later q) ∙ u in
        let here : suc k ≡ a = cc in
        let rest_is = rest k q (ap (slice_get (g ∷ gs)) here ∙ w) in
        ap suc rest_is
        ∙ next k (left (seen_at (after g o) gs n) f (drop (suc k) gs))
        ∙ ap (λ j. j + left (seen_at (after g o) gs n) f (drop (suc j) (g ∷ gs))) here
      where
        next : (i j : ℕ) → suc (i + j) ≡ suc i + j
        next i j = omega arith

-- what a store leaves of its own frame and those behind it, by what is found in its own
pub store_leaves_by : (m : ℕ) (f : Frame) (q : ℕ × Inst) (o : Older) (fs : List Frame) (touched : ℕ → Bool)
    (found : Option ℕ)
    → request f m ≡ Some q → m < length f.stores → length f.loads ≡ 32 → m < 32
    → ((a : ℕ) → touched a ≡ covers (waiting_store m (Some f)) a)
    → Finds (at f.stores) f.loads touched (m + 1) found
    → (store_left m o f fs ≡ cond (is_some found) 0
    (suc (untouched (nearest (at (set f.stores m (waiting_store m (Some f)))) m numbers) fs)))
    × ((a : ℕ) → narrowed (at f.stores) (m + 1) numbers touched a
    ≡ nearest (at (set f.stores m (waiting_store m (Some f)))) m numbers a)
store_leaves_by m f q o fs touched found is l size small same finds = (
  ap (resolved_leaves m f fs) is
      ∙ ap (λ s. cond (violated (nearest (at (set f.stores m s)) m) f.loads) 0
      (suc (untouched (nearest (at (set f.stores m s)) m numbers) fs))) (sym stored)
      ∙ ap (λ b. cond b 0 (suc (untouched (nearest (at (set f.stores m (waiting_store m (Some f)))) m numbers) fs)))
      (sym (own_found (at (set f.stores m (waiting_store m (Some f)))) f.loads touched (m + 1) found
      (finds_same (at f.stores) (at (set f.stores m (waiting_store m (Some f)))) f.loads touched (m + 1) found
      (λ k h. later_same k h) finds)
      m refl own size)),
  λ a. narrowed_same (at f.stores) (at (set f.stores m (waiting_store m (Some f)))) (m + 1) numbers touched a
      (λ k h. later_same k h)
      ∙ own_left (at (set f.stores m (waiting_store m (Some f)))) touched (m + 1) m a (omega arith) refl own,
)
  where
    stored : waiting_store m (Some f) ≡ stored_by f (Some q)
    stored = ap (stored_by f) is

    later_same : (k : ℕ) → m + 1 ≤ k → at f.stores k ≡ at (set f.stores m (waiting_store m (Some f))) k
    later_same k h = sym (other_at f.stores m k (waiting_store m (Some f)) (λ z. absurd (omega arith)))

    own : (a : ℕ) → touched a ≡ covers (at (set f.stores m (waiting_store m (Some f))) m) a
    own a = same a ∙ ap (λ s. covers s a) (sym (set_here f.stores m (waiting_store m (Some f)) l))

-- a younger frame
pub one_untouched : (fs : List Frame) (a : ℕ) (f : Frame) (touched : ℕ → Bool) (found : Option ℕ) (left : ℕ → Bool)
    → slice_get fs a ≡ Some f → is_some found ≡ violated (λ n. passes (at f.stores) n touched) f.loads
    → (found ≡ None → (x : ℕ) → left x ≡ passes (at f.stores) numbers touched x)
    → untouched touched (drop a fs) ≡ cond (is_some found) 0 (suc (untouched left (drop (suc a) fs)))
one_untouched [] a f touched found left e w k = absurd (cc)
one_untouched (g ∷ gs) zero f touched found left e w k =
    let same : g ≡ f = cc in
    ap (λ (h : Frame). untouched touched (h ∷ gs)) same
    ∙ ap (λ b. cond b 0 (suc (untouched (passes (at f.stores) numbers touched) gs))) (sym w)
    ∙ go found k
  where
    go : (o : Option ℕ) → (o ≡ None → (x : ℕ) → left x ≡ passes (at f.stores) numbers touched x)
        → cond (is_some o) 0 (suc (untouched (passes (at f.stores) numbers touched) gs))
        ≡ cond (is_some o) 0 (suc (untouched left gs))
    go None h = ap (λ t. suc (untouched t gs)) (sym (fun_ext (h refl)))
    go (Some n) h = refl
one_untouched (g ∷ gs) (suc a) f touched found left e w k = one_untouched gs a f touched found left e w k
