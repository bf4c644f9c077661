-- What is left of the oldest frame is less after each next event but a Commit,
-- which leaves no more than a frame costs.
use Rattle.std.proofs.Common.{◌≡◌, ℕ, ◌+◌, ◌*◌, ◌%◌, ◌<◌, ◌≤◌, Bool, true, false, cond, not}
use Rattle.std.proofs.Common.{◌⊎◌, inl, inr, List, [], ◌∷◌, Option, Some, None, length, is_some}
use Rattle.std.proofs.Common.{is_none}
use Rattle.std.proofs.Common.{count_by, refl, sym, ap, ◌∙◌, subst, true≢false, arith}
use Rattle.trips_isa.specs.declared.block.Token.{Token}
use Rattle.trips_isa.specs.declared.block.Inst.{Inst}
use Rattle.trips_isa.specs.declared.block.Stored.{Stored}
use Rattle.trips_isa.specs.declared.block.Block.{Block}
use Rattle.trips_isa.specs.Forms.{form_of, is_store}
use Rattle.trips_isa.specs.Stores.{stored_of}
use Rattle.trips_isa.specs.Places.{in_mask}
use Rattle.block_cases.specs.Orders.{slot_of}
use Rattle.commit_flush_spec.specs.Frames.{Frame, at, fresh, numbers, slot_node}
use Rattle.commit_flush_spec.specs.Sending.{mark_with}
use Rattle.commit_flush_spec.specs.Older.{Older, after, nearest, violated, cut, committed, successor_of}
use Rattle.commit_flush_spec.specs.Causes.{NoFrame, NoRequest, NoExit, Done}
use Rattle.commit_flush_spec.specs.Dataflow.{read, fire, deliver}
use Rattle.commit_flush_spec.specs.Memory.{request, is_request, can_store, load, store, store_resolved, with_store}
use Rattle.commit_flush_spec.specs.Ends.{can_exit, exit, exit_by, branch_of, branch_mark, with_exit, kept, seal}
use Rattle.commit_flush_spec.specs.Window.{Window, Event, change, alone, done, frames_after}
use Rattle.commit_flush_spec.specs.Window as event
use Rattle.commit_flush_spec.specs.inside.Invariant.{FrameOk, FramesOk, AllGood, Asked}
use Rattle.commit_flush_spec.proofs.Lists.{blank_at}
use Rattle.commit_flush_spec.proofs.Frames.{not_now}
use Rattle.commit_flush_spec.proofs.Loads.{Stands, stands}
use Rattle.block_cases.proofs.Steady.{or_left}
use Rattle.commit_flush_spec.specs.inside.Work.{events_left, none_guessed, reserve, oldest_left}
use Rattle.commit_flush_spec.proofs.Search.{true_or, all_from}
use Rattle.commit_flush_spec.proofs.Counts.{most_open, most_stand, all_open, blank_stands, one_most}
use Rattle.commit_flush_spec.proofs.Guesses.{not_violated}
use Rattle.commit_flush_spec.proofs.Falls.{Falls, read_falls, fire_falls, deliver_falls, load_falls, stored_falls}
use Rattle.commit_flush_spec.proofs.Falls.{masked}
use Rattle.commit_flush_spec.proofs.Falls.{exit_falls, seal_falls}
use Rattle.commit_flush_spec.proofs.Next.{same, place_of}
use Rattle.commit_flush_spec.proofs.Steps.{Stepping, Delivers, Fires, Reads, Stores, Loads, Exits}

-- the reserve ------------------------------------------------------------------------------------

reserve_less : (f g : Frame) → (none_guessed f ≡ true → none_guessed g ≡ true) → reserve g ≤ reserve f
reserve_less f g h = go (none_guessed f) refl (none_guessed g) refl
  where
    go : (b : Bool) → none_guessed f ≡ b → (c : Bool) → none_guessed g ≡ c
        → cond (none_guessed g) 0 611 ≤ cond (none_guessed f) 0 611
    go true i true j =
        let x : cond {A = ℕ} (none_guessed g) 0 611 ≡ 0 = ap (λ v. cond v 0 611) j in omega (arith, x)
    go true i false j = absurd (true≢false (sym (h i) ∙ j))
    go false i true j =
        let x : cond {A = ℕ} (none_guessed g) 0 611 ≡ 0 = ap (λ v. cond v 0 611) j in omega (arith, x)
    go false i false j =
        let x : cond {A = ℕ} (none_guessed g) 0 611 ≡ 611 = ap (λ v. cond v 0 611) j in
        let y : cond {A = ℕ} (none_guessed f) 0 611 ≡ 611 = ap (λ v. cond v 0 611) i in
        omega (arith, x, y)

-- a frame that falls lowers what is left of it
fall : (f g : Frame) (fs gs : List Frame) → Falls f g → oldest_left (g ∷ gs) < oldest_left (f ∷ fs)
fall f g fs gs h =
    let a = reserve_less f g h.stays in
    let c = h.less in
    omega (arith, a, c)

-- a step changes the oldest frame ----------------------------------------------------------------

-- a change by the oldest frame's number acts on the oldest frame
pub change_oldest : (does : Older → Frame → List Frame → List Frame) (o : Older) (f : Frame) (fs : List Frame)
    → change does o (f ∷ fs) f.number ≡ does o f fs
change_oldest does o f fs =
    ap (λ b. cond b (does o f fs) (f ∷ change does (after f o) fs f.number)) (same f.number)

-- a store that is resolved leaves its frame, or flushes it where a load of it was guessed
module _ (blocks : List Block) (good : AllGood blocks) (o : Older) (f : Frame) (fs : List Frame)
    (ok : FrameOk blocks o f) (n s : ℕ) (i : Inst) (asks : at f.requests n ≡ Some s) (is : slot_of f.code s ≡ Some i)
    (kind : is_store (form_of i.op) ≡ true) (unresolved : at f.stores n ≡ None) where
  abbrev V : Option Stored
  V = stored_of i (at f.spots s) (at f.spots (128 + s))

  abbrev W : Frame
  W = with_store n V (mark_with f (slot_node f.code s)) f

  number : i.number ≡ n
  number =
      let a : Asked f n s = ok.asked n s asks in
      let it : Some a.inst ≡ Some i = sym a.is_inst ∙ is in
      let one : a.inst ≡ i = cc in
      sym (ap (λ (j : Inst). j.number) one) ∙ a.number

  -- the number is in the mask of the frame's block
  pub in_the_mask : in_mask f.code.mask n ≡ true
  in_the_mask = sym (ap (in_mask f.code.mask) number) ∙ masked f.code (good f.block f.code ok.code) s i is kind

  pub resolved_falls : oldest_left (store_resolved n f fs (Some (s, i))) < oldest_left (f ∷ fs)
  resolved_falls = go (violated (nearest (at W.stores) n) f.loads) refl (true_or (none_guessed f))
    where
      go : (b : Bool) → violated (nearest (at W.stores) n) f.loads ≡ b
          → (none_guessed f ≡ true) ⊎ (none_guessed f ≡ false)
          → oldest_left (cond b [] (W ∷ cut (nearest (at W.stores) n numbers) fs)) < oldest_left (f ∷ fs)
      go false z w = fall f W fs (cut (nearest (at W.stores) n numbers) fs)
          (stored_falls f n s (mark_with f (slot_node f.code s)) V asks unresolved)
      go true z (inl w) = absurd (true≢false (sym z
          ∙ not_violated f n (at W.stores) ok.sized.loads in_the_mask unresolved w))
      go true z (inr w) =
          let x : cond {A = ℕ} (none_guessed f) 0 611 ≡ 611 = ap (λ v. cond v 0 611) w in
          omega (arith, x)

store_falls : (blocks : List Block) → AllGood blocks → (o : Older) (f : Frame) (fs : List Frame)
    → FrameOk blocks o f → (n : ℕ) → can_store n o f ≡ Done → at f.stores n ≡ None
    → oldest_left (store n o f fs) < oldest_left (f ∷ fs)
store_falls blocks good o f fs ok n c unresolved =
    let a = not_now f.sealed NoFrame _ c in
    let b = not_now (not (is_request is_store (request f n))) NoRequest _ a.1 in
    let q : Stands is_store f n = stands is_store f n b.0 in
    subst (λ y. oldest_left (store_resolved n f fs y) < oldest_left (f ∷ fs)) (sym q.is_request)
    (resolved_falls blocks good o f fs ok n q.slot q.inst q.asks q.is_inst q.is_kind unresolved)

exits_fall : (blocks : List Block) (o : Older) (f : Frame) (fs : List Frame) → can_exit o f ≡ Done
    → oldest_left (exit blocks o f fs) < oldest_left (f ∷ fs)
exits_fall blocks o f fs c =
    let a = not_now f.sealed NoFrame _ c in
    let b = not_now (is_none f.leaving) NoExit _ a.1 in
    fall f (with_exit (exit_by blocks f.block (branch_of f f.leaving)) (branch_mark f f.leaving) f) fs
    (kept (successor_of (exit_by blocks f.block (branch_of f f.leaving))) fs)
    (exit_falls f (exit_by blocks f.block (branch_of f f.leaving)) (branch_mark f f.leaving)
    (λ z. true≢false (sym (ap is_none z) ∙ b.0)))

-- what is left of the window's oldest frame ------------------------------------------------------

-- an event that changes frames alone, after which less is left of the oldest one
pub record Lowers (blocks : List Block) (w : Window) (e : Event) : Type 0 where
  pub state : (done blocks e w).state ≡ w.state
  pub over : (done blocks e w).over ≡ w.over
  pub less : oldest_left (done blocks e w).frames < oldest_left w.frames

-- by the change of the oldest frame
module _ (w : Window) (f : Frame) (fs : List Frame) (i : w.frames ≡ f ∷ fs) where
  by_change : (does : Older → Frame → List Frame → List Frame)
      → oldest_left (does (committed w.state) f fs) < oldest_left (f ∷ fs)
      → oldest_left (change does (committed w.state) w.frames f.number) < oldest_left w.frames
  by_change does l =
      let a : oldest_left (change does (committed w.state) w.frames f.number)
      ≡ oldest_left (does (committed w.state) f fs) =
      ap (λ l. oldest_left (change does (committed w.state) l f.number)) i
      ∙ ap oldest_left (change_oldest does (committed w.state) f fs) in
      let c : oldest_left w.frames ≡ oldest_left (f ∷ fs) = ap oldest_left i in
      omega (arith, a, c, l)

  by_alone : (does : Older → Frame → Frame) → Falls f (does (committed w.state) f)
      → oldest_left (change (alone does) (committed w.state) w.frames f.number) < oldest_left w.frames
  by_alone does h = by_change (alone does) (fall f (does (committed w.state) f) fs fs h)

-- a step of the oldest frame lowers what is left
pub step_lowers : (blocks : List Block) → AllGood blocks → (w : Window) (f : Frame) (fs : List Frame)
    → w.frames ≡ f ∷ fs → FrameOk blocks (committed w.state) f → (e : Event) → Stepping (committed w.state) f e
    → Lowers blocks w e
step_lowers blocks good w f fs i ok e (Delivers p l z d) = subst (Lowers blocks w) (sym z) (record {
  state = refl;
  over = refl;
  less = (let k = place_of f.number p l in
      let it : oldest_left (change (alone (deliver p)) (committed w.state) w.frames f.number) < oldest_left w.frames =
      by_alone w f fs i (deliver p) (deliver_falls p (committed w.state) f d) in
      subst (λ n. oldest_left (change (alone (deliver ((f.number * 320 + p) % 320))) (committed w.state) w.frames n)
      < oldest_left w.frames) (sym k.1)
      (subst (λ q. oldest_left (change (alone (deliver q)) (committed w.state) w.frames f.number)
      < oldest_left w.frames) (sym k.0) it));
})
step_lowers blocks good w f fs i ok e (Fires s z d) = subst (Lowers blocks w) (sym z) (record {
  state = refl;
  over = refl;
  less = by_alone w f fs i (fire s) (fire_falls blocks good s (committed w.state) f d ok);
})
step_lowers blocks good w f fs i ok e (Reads r z d) = subst (Lowers blocks w) (sym z) (record {
  state = refl;
  over = refl;
  less = by_alone w f fs i (read r) (read_falls blocks good r (committed w.state) f d ok);
})
step_lowers blocks good w f fs i ok e (Stores n z d k) = subst (Lowers blocks w) (sym z) (record {
  state = refl;
  over = refl;
  less = by_change w f fs i (store n) (store_falls blocks good (committed w.state) f fs ok n d k);
})
step_lowers blocks good w f fs i ok e (Loads n z d k) = subst (Lowers blocks w) (sym z) (record {
  state = refl;
  over = refl;
  less = by_alone w f fs i (load n) (load_falls n (committed w.state) f d k);
})
step_lowers blocks good w f fs i ok e (Exits z d) = subst (Lowers blocks w) (sym z) (record {
  state = refl;
  over = refl;
  less = by_change w f fs i (exit blocks) (exits_fall blocks (committed w.state) f fs d);
})

-- the Seal of the oldest frame lowers what is left
pub seal_lowers : (blocks : List Block) (w : Window) (f : Frame) (fs : List Frame) → w.frames ≡ f ∷ fs
    → f.sealed ≡ false → (e : Event) → e ≡ event.Seal f.number → Lowers blocks w e
seal_lowers blocks w f fs i s e z = subst (Lowers blocks w) (sym z) (record {
  state = refl;
  over = refl;
  less = by_alone w f fs i seal (seal_falls (committed w.state) f s);
})

-- a fresh frame ----------------------------------------------------------------------------------

fresh_left : (n k : ℕ) (b : Block) → events_left (fresh n k b) ≡ 609
fresh_left n k b =
    let a = all_open 32 in
    let c = all_open 128 in
    let d = blank_stands Token 320 in
    let e = blank_stands ℕ 32 in
    omega (arith, a, c, d, e)

-- a frame that was just filled has guessed no load
pub fresh_unguessed : (n k : ℕ) (b : Block) → none_guessed (fresh n k b) ≡ true
fresh_unguessed n k b = all_from _ numbers (λ j l. or_left _ _ (ap is_none (blank_at 32 j)))

-- as the oldest a fresh frame has 609 events left
pub fresh_least : (n k : ℕ) (b : Block) → oldest_left (fresh n k b ∷ []) ≡ 609
fresh_least n k b =
    let a = fresh_left n k b in
    let c : cond {A = ℕ} (none_guessed (fresh n k b)) 0 611 ≡ 0 = ap (λ v. cond v 0 611) (fresh_unguessed n k b) in
    omega (arith, a, c)

-- a frame has no more than its price -------------------------------------------------------------

sealed_most : (b : Bool) → cond b 0 1 ≤ 1
sealed_most true = omega arith
sealed_most false = omega arith

reserve_most : (f : Frame) → reserve f ≤ 611
reserve_most f = go (none_guessed f)
  where
    go : (b : Bool) → cond b 0 611 ≤ 611
    go true = omega arith
    go false = omega arith

-- what is left of the oldest frame is at most 1,637
pub most_of : (blocks : List Block) (fs : List Frame) (o : Older) → FramesOk blocks o fs → oldest_left fs ≤ 1637
most_of blocks [] o ok = omega arith
most_of blocks (f ∷ fs) o ok =
    let s = ok.2.sized in
    let a : count_by not f.reads ≤ length f.reads = most_open f.reads in
    let b : length f.reads ≡ 32 = s.reads in
    let c : count_by not f.fired ≤ length f.fired = most_open f.fired in
    let d : length f.fired ≡ 128 = s.fired in
    let e : count_by is_some f.places ≤ length f.places = most_stand f.places in
    let g : length f.places ≡ 320 = s.places in
    let h : count_by is_some f.requests ≤ length f.requests = most_stand f.requests in
    let i : length f.requests ≡ 32 = s.requests in
    let j = one_most (is_some f.leaving) in
    let k = sealed_most f.sealed in
    let l = reserve_most f in
    omega (arith, a, b, c, d, e, g, h, i, j, k, l)
