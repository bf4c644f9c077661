-- Events that flush younger frames cut the order of age.
use Rattle.std.proofs.Common.{◌≡◌, ℕ, zero, suc, Bool, true, false, cond, ◌==◌, List, [], ◌∷◌, take}
use Rattle.std.proofs.Common.{length, Option}
use Rattle.std.proofs.Common.{Some, None, refl, sym, ap, ◌∙◌}
use Rattle.trips_isa.specs.declared.block.Inst.{Inst}
use Rattle.trips_isa.specs.declared.block.Block.{Block}
use Rattle.commit_flush_spec.specs.Frames.{Frame, at, numbers}
use Rattle.commit_flush_spec.specs.Older.{Older, after, follows, successor_of, nearest, passes, violated, cut}
use Rattle.commit_flush_spec.specs.Memory.{request, store, store_resolved, checked}
use Rattle.commit_flush_spec.specs.Ends.{exit, exit_by, branch_of, kept}
use Rattle.commit_flush_spec.specs.InFlight.{change, alone, flush}
use Rattle.commit_flush_spec.specs.inside.Numbered.{before, by_age, AllThere}
use Rattle.commit_flush_spec.specs.Dropping.{left_by, untouched, with_resolved, store_leaves, resolved_leaves}
use Rattle.commit_flush_spec.specs.Dropping.{store_left, exit_leaves, exit_left}
use Rattle.commit_flush_spec.specs.inside.Dropping.{stored_alone, exited_alone}
use Rattle.commit_flush_spec.specs.Dropping.{none_left}
use Rattle.commit_flush_spec.specs.inside.Dropping.{unchanged}

-- a change that leaves the beginning of the changed frame and those behind it
change_drops : (does : Older → Frame → List Frame → List Frame) (alters : Older → Frame → Frame)
    (left : Older → Frame → List Frame → ℕ)
    → ((o : Older) (f : Frame) (fs : List Frame) → does o f fs ≡ take (left o f fs) (alters o f ∷ fs))
    → (o : Older) (fs : List Frame) (n : ℕ)
    → change does o fs n ≡ take (left_by left o fs n) (change (alone alters) o fs n)
change_drops does alters left h o [] n = refl
change_drops does alters left h o (f ∷ fs) n = go (f.number == n) (change_drops does alters left h (after f o) fs n)
  where
    go : (b : Bool)
        → change does (after f o) fs n ≡ take (left_by left (after f o) fs n) (change (alone alters) (after f o) fs n)
        → cond b (does o f fs) (f ∷ change does (after f o) fs n)
        ≡ take (cond b (left o f fs) (suc (left_by left (after f o) fs n)))
        (cond b (alters o f ∷ fs) (f ∷ change (alone alters) (after f o) fs n))
    go true r = h o f fs
    go false r = ap (λ x. f ∷ x) r

-- the frames before the first that took a touched byte
cut_takes : (touched : ℕ → Bool) (fs : List Frame) → cut touched fs ≡ take (untouched touched fs) fs
cut_takes touched [] = refl
cut_takes touched (f ∷ fs) = go (violated (λ n. passes (at f.stores) n touched) f.loads)
    (cut_takes (passes (at f.stores) numbers touched) fs)
  where
    go : (b : Bool) → cut (passes (at f.stores) numbers touched) fs
        ≡ take (untouched (passes (at f.stores) numbers touched) fs) fs
        → cond b [] (f ∷ cut (passes (at f.stores) numbers touched) fs)
        ≡ take (cond b 0 (suc (untouched (passes (at f.stores) numbers touched) fs))) (f ∷ fs)
    go true r = refl
    go false r = ap (λ x. f ∷ x) r

-- a store
checked_takes : (n : ℕ) (f : Frame) (fs : List Frame) → checked n f fs ≡ take (store_leaves n f fs) (f ∷ fs)
checked_takes n f fs = go (violated (nearest (at f.stores) n) f.loads)
  where
    go : (b : Bool) → cond b [] (f ∷ cut (nearest (at f.stores) n numbers) fs)
        ≡ take (cond b 0 (suc (untouched (nearest (at f.stores) n numbers) fs))) (f ∷ fs)
    go true = refl
    go false = ap (λ x. f ∷ x) (cut_takes (nearest (at f.stores) n numbers) fs)

all_taken : (fs : List Frame) → fs ≡ take (length fs) fs
all_taken [] = refl
all_taken (f ∷ fs) = ap (λ x. f ∷ x) (all_taken fs)

-- an exit
kept_takes : (known : Option ℕ) (fs : List Frame) → kept known fs ≡ take (exit_leaves known fs) fs
kept_takes known [] = refl
kept_takes known (f ∷ fs) = go (follows known f.block)
  where
    go : (b : Bool) → cond b (f ∷ fs) [] ≡ take (cond b (suc (length fs)) 0) (f ∷ fs)
    go true = ap (λ x. f ∷ x) (all_taken fs)
    go false = refl

-- the three events ----------------------------------------------------------------------------

store_takes : (n : ℕ) (o : Older) (f : Frame) (fs : List Frame)
    → store n o f fs ≡ take (store_left n o f fs) (stored_alone n o f ∷ fs)
store_takes n o f fs = go (request f n)
  where
    go : (q : Option (ℕ × Inst)) → store_resolved n f fs q
        ≡ take (resolved_leaves n f fs q) (with_resolved n f q ∷ fs)
    go None = ap (λ x. f ∷ x) (all_taken fs)
    go (Some q) = checked_takes n (with_resolved n f (Some q)) fs

-- a store is the change of its frame alone, of which the frames that it leaves stay
pub stores_drop : (m : ℕ) (o : Older) (fs : List Frame) (n : ℕ)
    → change (store m) o fs n ≡ take (left_by (store_left m) o fs n) (change (alone (stored_alone m)) o fs n)
stores_drop m = change_drops (store m) (stored_alone m) (store_left m) (store_takes m)

-- an exit is the change of its frame alone, of which the frames that it leaves stay
pub exits_drop : (blocks : List Block) (o : Older) (fs : List Frame) (n : ℕ)
    → change (exit blocks) o fs n
    ≡ take (left_by (exit_left blocks) o fs n) (change (alone (exited_alone blocks)) o fs n)
exits_drop blocks = change_drops (exit blocks) (exited_alone blocks) (exit_left blocks) (λ o f fs.
    ap (λ x. exited_alone blocks o f ∷ x)
    (kept_takes (successor_of (exit_by blocks f.block (branch_of f f.leaving))) fs))

-- a flush is no change, of which the frames that it leaves stay
pub flushes_drop : (o : Older) (fs : List Frame) (n : ℕ)
    → change flush o fs n ≡ take (left_by none_left o fs n) (change (alone unchanged) o fs n)
flushes_drop = change_drops flush unchanged none_left (λ o f fs. refl)

-- by number ------------------------------------------------------------------------------------

-- the beginning of the frames by age is that of their order
pub take_by_age : (slots : List (Option Frame)) (order : List ℕ) (k : ℕ) → AllThere slots order
    → take k (by_age slots order) ≡ by_age slots (take k order)
take_by_age slots order zero h = refl
take_by_age slots [] (suc k) h = refl
take_by_age slots (n ∷ ns) (suc k) h =
    let f : Frame = h.0.0 in
    ap (λ x. take (suc k) (before x (by_age slots ns))) h.0.1
    ∙ ap (λ x. f ∷ x) (take_by_age slots ns k h.1)
    ∙ sym (ap (λ x. before x (by_age slots (take k ns))) h.0.1)
