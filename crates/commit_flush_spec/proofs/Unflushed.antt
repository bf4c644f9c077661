-- A next event flushes the oldest frame only where a load of it was guessed.
use Rattle.std.proofs.Common.{◌≡◌, ℕ, ◌+◌, ◌*◌, ◌%◌, true, false, cond, not}
use Rattle.std.proofs.Common.{List, [], ◌∷◌, Some, None, is_none, refl, sym, ap, ◌∙◌, subst, true≢false}
use Rattle.trips_isa.specs.declared.block.Inst.{Inst}
use Rattle.trips_isa.specs.declared.block.Block.{Block}
use Rattle.trips_isa.specs.Forms.{form_of, is_store}
use Rattle.trips_isa.specs.Stores.{stored_of}
use Rattle.block_cases.specs.Orders.{slot_of}
use Rattle.commit_flush_spec.specs.Frames.{Frame, at, numbers, slot_node}
use Rattle.commit_flush_spec.specs.Sending.{mark_with}
use Rattle.commit_flush_spec.specs.Older.{Older, nearest, violated, cut, committed}
use Rattle.commit_flush_spec.specs.Causes.{NoFrame, NoRequest, NoExit, Done}
use Rattle.commit_flush_spec.specs.Dataflow.{read, fire, deliver}
use Rattle.commit_flush_spec.specs.Memory.{request, is_request, can_store, load, store, store_resolved, with_store}
use Rattle.commit_flush_spec.specs.Ends.{can_exit, exit, exit_by, branch_of, branch_mark, seal}
use Rattle.commit_flush_spec.specs.Window.{Window, Event, change, alone, done, happens}
use Rattle.commit_flush_spec.specs.inside.Invariant.{FrameOk, FramesOk, AllGood}
use Rattle.commit_flush_spec.specs.inside.Laws.{WindowOk}
use Rattle.commit_flush_spec.proofs.Events.{taken}
use Rattle.commit_flush_spec.proofs.Frames.{not_now}
use Rattle.commit_flush_spec.proofs.Loads.{Stands, stands}
use Rattle.commit_flush_spec.specs.inside.NextEvent.{next_event}
use Rattle.commit_flush_spec.specs.inside.Work.{none_guessed}
use Rattle.commit_flush_spec.specs.inside.DrivingLaws.{MayFill, StaysOldest}
use Rattle.commit_flush_spec.proofs.Guesses.{not_violated}
use Rattle.commit_flush_spec.proofs.Falls.{Falls, read_falls, fire_falls, deliver_falls, load_falls, stored_falls}
use Rattle.commit_flush_spec.proofs.Falls.{exit_falls, seal_falls}
use Rattle.commit_flush_spec.proofs.Steps.{Stepping, Delivers, Fires, Reads, Stores, Loads, Exits}
use Rattle.commit_flush_spec.proofs.Next.{Next, Fetches, Commits, Seals, Takes, parts, next_done, place_of}
use Rattle.commit_flush_spec.proofs.FramesSeen.{change_oldest, in_the_mask}

module _ (w : Window) (f : Frame) (fs : List Frame) (i : w.frames ≡ f ∷ fs) (sure : none_guessed f ≡ true) where
  -- by the change of the oldest frame
  by_change : (does : Older → Frame → List Frame → List Frame) → StaysOldest (does (committed w.state) f fs)
      → StaysOldest (change does (committed w.state) w.frames f.number)
  by_change does s = subst StaysOldest (sym (ap (λ l. change does (committed w.state) l f.number) i
      ∙ change_oldest does (committed w.state) f fs)) s

  by_alone : (does : Older → Frame → Frame) → Falls f (does (committed w.state) f)
      → StaysOldest (change (alone does) (committed w.state) w.frames f.number)
  by_alone does h = by_change (alone does) (h.stays sure)

store_stays : (blocks : List Block) → AllGood blocks → (o : Older) (f : Frame) (fs : List Frame) → FrameOk blocks o f
    → (n : ℕ) → can_store n o f ≡ Done → at f.stores n ≡ None → none_guessed f ≡ true → StaysOldest (store n o f fs)
store_stays blocks good o f fs ok n c unresolved sure =
    let a = not_now f.sealed NoFrame _ c in
    let b = not_now (not (is_request is_store (request f n))) NoRequest _ a.1 in
    let q : Stands is_store f n = stands is_store f n b.0 in
    subst (λ y. StaysOldest (store_resolved n f fs y)) (sym q.is_request)
    (resolved q.slot q.inst q.asks q.is_inst q.is_kind)
  where
    resolved : (s : ℕ) (i : Inst) → at f.requests n ≡ Some s → slot_of f.code s ≡ Some i
        → is_store (form_of i.op) ≡ true → StaysOldest (store_resolved n f fs (Some (s, i)))
    resolved s i e d k = go (with_store n (stored_of i (at f.spots s) (at f.spots (128 + s)))
        (mark_with f (slot_node f.code s)) f) refl
        ((stored_falls f n s (mark_with f (slot_node f.code s)) (stored_of i (at f.spots s) (at f.spots (128 + s))) e
        unresolved).stays sure)
        (not_violated f n (at (with_store n (stored_of i (at f.spots s) (at f.spots (128 + s)))
        (mark_with f (slot_node f.code s)) f).stores) ok.sized.loads
        (in_the_mask blocks good o f fs ok n s i e d k unresolved) unresolved sure)
      where
        go : (g : Frame) → g.loads ≡ f.loads → none_guessed g ≡ true
            → violated (nearest (at g.stores) n) f.loads ≡ false
            → StaysOldest (cond (violated (nearest (at g.stores) n) g.loads) []
            (g ∷ cut (nearest (at g.stores) n numbers) fs))
        go g l s z = subst (λ b. StaysOldest (cond b [] (g ∷ cut (nearest (at g.stores) n numbers) fs)))
            (sym (ap (violated (nearest (at g.stores) n)) l ∙ z)) s

exit_stays : (blocks : List Block) (o : Older) (f : Frame) (fs : List Frame) → can_exit o f ≡ Done
    → none_guessed f ≡ true → StaysOldest (exit blocks o f fs)
exit_stays blocks o f fs c sure =
    let a = not_now f.sealed NoFrame _ c in
    let b = not_now (is_none f.leaving) NoExit _ a.1 in
    (exit_falls f (exit_by blocks f.block (branch_of f f.leaving)) (branch_mark f f.leaving)
    (λ z. true≢false (sym (ap is_none z) ∙ b.0))).stays sure

-- a step of the oldest frame, of which no load was guessed, leaves it in flight
pub step_stays : (blocks : List Block) → AllGood blocks → (w : Window) (f : Frame) (fs : List Frame)
    → w.frames ≡ f ∷ fs → none_guessed f ≡ true → FrameOk blocks (committed w.state) f → (e : Event)
    → Stepping (committed w.state) f e → StaysOldest (done blocks e w).frames
step_stays blocks good w f fs i sure ok e (Delivers p l z d) =
    let k = place_of f.number p l in
    let it : StaysOldest (change (alone (deliver p)) (committed w.state) w.frames f.number) =
    by_alone w f fs i sure (deliver p) (deliver_falls p (committed w.state) f d) in
    subst (λ x. StaysOldest (done blocks x w).frames) (sym z)
    (subst (λ n. StaysOldest (change (alone (deliver ((f.number * 320 + p) % 320))) (committed w.state) w.frames n))
    (sym k.1) (subst (λ q. StaysOldest (change (alone (deliver q)) (committed w.state) w.frames f.number))
    (sym k.0) it))
step_stays blocks good w f fs i sure ok e (Fires s z d) =
    subst (λ x. StaysOldest (done blocks x w).frames) (sym z)
    (by_alone w f fs i sure (fire s) (fire_falls blocks good s (committed w.state) f d ok))
step_stays blocks good w f fs i sure ok e (Reads r z d) =
    subst (λ x. StaysOldest (done blocks x w).frames) (sym z)
    (by_alone w f fs i sure (read r) (read_falls blocks good r (committed w.state) f d ok))
step_stays blocks good w f fs i sure ok e (Stores n z d k) =
    subst (λ x. StaysOldest (done blocks x w).frames) (sym z)
    (by_change w f fs i sure (store n) (store_stays blocks good (committed w.state) f fs ok n d k sure))
step_stays blocks good w f fs i sure ok e (Loads n z d k) =
    subst (λ x. StaysOldest (done blocks x w).frames) (sym z)
    (by_alone w f fs i sure (load n) (load_falls n (committed w.state) f d k))
step_stays blocks good w f fs i sure ok e (Exits z d) =
    subst (λ x. StaysOldest (done blocks x w).frames) (sym z)
    (by_change w f fs i sure (exit blocks) (exit_stays blocks (committed w.state) f fs d sure))

-- a next event leaves the oldest frame in flight where no load of it was guessed and it is not sealed
pub oldest_stays : (blocks : List Block) (budget : ℕ) (e : Event) (w : Window) (f : Frame) (fs : List Frame)
    → AllGood blocks → WindowOk blocks budget w → MayFill w → next_event budget w ≡ Some e → w.frames ≡ f ∷ fs
    → f.sealed ≡ false → none_guessed f ≡ true → StaysOldest (happens blocks budget e w).frames
oldest_stays blocks budget e w f fs good ok fill h i runs sure =
    subst (λ (v : Window). StaysOldest v.frames)
    (sym (taken blocks budget e w (next_done blocks budget e w ok fill h))) (by (parts budget w e h).2)
  where
    -- the oldest frame is one
    same : (g : Frame) (gs : List Frame) → w.frames ≡ g ∷ gs → g ≡ f
    same g gs j = let both : g ∷ gs ≡ f ∷ fs = sym j ∙ i in cc

    by : Next w e → StaysOldest (done blocks e w).frames
    by (Fetches j z) = absurd (let bad : [] ≡ f ∷ fs = sym j ∙ i in cc)
    by (Commits g gs j s z) =
        absurd (true≢false (sym s ∙ ap (λ (x : Frame). x.sealed) (same g gs j) ∙ runs))
    by (Seals g gs j s c z) =
        let unguessed : none_guessed g ≡ true = ap none_guessed (same g gs j) ∙ sure in
        subst (λ x. StaysOldest (done blocks x w).frames) (sym z)
        (by_alone w g gs j unguessed seal (seal_falls (committed w.state) g s))
    by (Takes g gs j t) =
        let unguessed : none_guessed g ≡ true = ap none_guessed (same g gs j) ∙ sure in
        step_stays blocks good w g gs j unguessed (subst (FramesOk blocks (committed w.state)) j ok.frames).2 e t
