-- Load, Deliver, Store and Exit lose no token, and so no event of the window does.
use Rattle.std.proofs.Common.{◌≡◌, ◌≢◌, ℕ, suc, ◌+◌, ◌-◌, ◌*◌, ◌/◌, ◌%◌, ◌<◌, Bool, true, false, cond, not}
use Rattle.std.proofs.Common.{nat_lt, ◌&&◌, ◌||◌, ◌==◌, ◌⊎◌, inl, inr, List, [], ◌∷◌, ◌++◌, Option, Some}
use Rattle.std.proofs.Common.{None, set, get_or, length, refl, sym, ap, ap₂, ◌∙◌, subst, true≢false, arith}
use Rattle.std.specs.Prelude.{is_some, is_none}
use Rattle.std.proofs.lemmas.Bool.Decides.{nat_tests}
use Rattle.trips_isa.specs.declared.block.Token.{Token}
use Rattle.trips_isa.specs.declared.block.Inst.{Inst}
use Rattle.trips_isa.specs.declared.block.Stored.{Stored}
use Rattle.trips_isa.specs.declared.block.Block.{Block}
use Rattle.trips_isa.specs.declared.form.Form.{Form}
use Rattle.trips_isa.specs.declared.form.Form.TheVariants.{General, Immediate, Load, Store, Branch, Constant}
use Rattle.trips_isa.specs.Forms.{form_of, is_load, is_store}
use Rattle.trips_isa.specs.Rule.{Answer}
use Rattle.trips_isa.specs.Stores.{stored_of}
use Rattle.trips_isa.specs.Blocks.{leaves_with}
use Rattle.block_cases.specs.Orders.{slot_of}
use Rattle.commit_flush_spec.specs.Frames.{Frame, Taken, at, unset, numbers, slot_node, target, is_target}
use Rattle.commit_flush_spec.specs.Frames.{fresh}
use Rattle.commit_flush_spec.specs.Sending.{token_with}
use Rattle.commit_flush_spec.specs.Older.{Older, after, follows, successor_of, passes, nearest, violated, cut}
use Rattle.commit_flush_spec.specs.Causes.{Cause, NoFrame, NoToken, NoRequest, NoExit, Happened, Done, NotNow}
use Rattle.commit_flush_spec.specs.Dataflow.{can_deliver, deliver, delivered}
use Rattle.commit_flush_spec.specs.Memory.{request, is_request, can_load, taken_of, taken_word, load}
use Rattle.commit_flush_spec.specs.Memory.{load_answered, can_store, with_store, store, store_resolved}
use Rattle.commit_flush_spec.specs.Ends.{can_exit, exit_by, branch_of, kept, with_exit, exit, seal}
use Rattle.commit_flush_spec.specs.Window.{on_frame, change, alone}
use Rattle.commit_flush_spec.specs.inside.Invariant.{FrameOk, FramesOk, IsRunnable, AllGood, Asked, Leaves, has_sent}
use Rattle.commit_flush_spec.specs.inside.Invariant.{slot_sent, inst_sent}
use Rattle.commit_flush_spec.specs.inside.Laws.{NoneLost, AllKept}
use Rattle.commit_flush_spec.specs.Sending.{mark_with}
use Rattle.commit_flush_spec.specs.Ends.{branch_mark}
use Rattle.commit_flush_spec.proofs.Lists.{equal_or, other_at, set_here, unset_at}
use Rattle.commit_flush_spec.proofs.Tokens.{inst_in, token_there}
use Rattle.commit_flush_spec.proofs.Frames.{not_now}
use Rattle.commit_flush_spec.proofs.Sends.{moved, slot_source}
use Rattle.commit_flush_spec.proofs.Flow.{some_of}
use Rattle.commit_flush_spec.proofs.Loads.{Stands, stands, one_load, in_range, not_false}
use Rattle.commit_flush_spec.proofs.Storing.{store_there}
use Rattle.commit_flush_spec.proofs.Committing.{both_true}
use Rattle.commit_flush_spec.proofs.Lost.{put_there}
use Rattle.commit_flush_spec.proofs.Kept.{sends_kept, half_places}

not_both : (t : Form) → is_load t ≡ true → is_store t ≡ true → ⊥
not_both General e k = absurd (cc)
not_both Immediate e k = absurd (cc)
not_both Constant e k = absurd (cc)
not_both Load e k = absurd (cc)
not_both Store e k = absurd (cc)
not_both Branch e k = absurd (cc)

-- one slot asks with a number
one_asks : (f : Frame) (n s t : ℕ) (i j : Inst) → at f.requests n ≡ Some s → at f.requests n ≡ Some t
    → slot_of f.code s ≡ Some i → slot_of f.code t ≡ Some j → i ≡ j
one_asks f n s t i j a b e d =
    let same : s ≡ t = cc in
    let k : slot_of f.code t ≡ Some i = subst (λ y. slot_of f.code y ≡ Some i) same e in
    cc

-- loads ------------------------------------------------------------------------------------------

module _ (blocks : List Block) (good : AllGood blocks) (o : Older) (f : Frame) (ok : FrameOk blocks o f)
    (lost : NoneLost f)
    (n s : ℕ) (i : Inst) (asks : at f.requests n ≡ Some s) (is : slot_of f.code s ≡ Some i)
    (isload : is_load (form_of i.op) ≡ true) where
  abbrev T : Taken
  T = taken_of i (at f.spots s)

  abbrev L : List (Option Taken)
  L = set f.loads n (Some T)

  abbrev Q : List (Option ℕ)
  Q = set f.requests n None

  runnable : IsRunnable f.code
  runnable = good f.block f.code ok.code

  asked_is : Asked f n s
  asked_is = ok.asked n s asks

  number : i.number ≡ n
  number = (let a : slot_of f.code s ≡ Some (asked_is).inst = (asked_is).is_inst in
      let same : (asked_is).inst ≡ i = cc in sym (ap (λ (j : Inst). j.number) same) ∙ (asked_is).number)

  here : at L n ≢ None
  here z = (let l : n < length f.requests = in_range f.requests n s asks in
      let a : length f.requests ≡ 32 = ok.sized.requests in let b : length f.loads ≡ 32 = ok.sized.loads in
      let bad : Some T ≡ None = sym (set_here f.loads n (Some T) (omega arith)) ∙ z in cc)

  small : s < 128
  small = let lt : s < length f.code.insts.items = inst_in f.code.insts.items s i is in
      let all : length f.code.insts.items ≡ 128 = (runnable).fits.insts in omega arith

  newly : (q : ℕ) → has_sent (moved f f.fired f.reads Q f.leaving L) q ≡ true
      → (has_sent f q ≡ true) ⊎ ((q ≡ 2 * s) ⊎ (q ≡ suc (2 * s)))
  newly q e = go (nat_lt q 256) e
    where
      inner : (j : Inst) → slot_of f.code (q / 2) ≡ Some j → (c : Bool) → is_load (form_of j.op) ≡ c
          → (not c || is_some (at L j.number)) ≡ true → ((not c || is_some (at f.loads j.number)) ≡ true)
          ⊎ (q / 2 ≡ s)
      inner j w false k h = inl refl
      inner j w true k h = elim (equal_or j.number n) [
        | inl z ↦ inr (one_load f.code runnable (q / 2) s j i w is k isload (z ∙ sym number))
        | inr z ↦ inl (sym (ap is_some (other_at f.loads n j.number (Some T) z)) ∙ h)
      ]

      slot : (x : Option Inst) → slot_of f.code (q / 2) ≡ x
          → inst_sent (moved f f.fired f.reads Q f.leaving L) x ≡ true → (inst_sent f x ≡ true) ⊎ (q / 2 ≡ s)
      slot None w h = inl h
      slot (Some j) w h = inner j w (is_load (form_of j.op)) refl h

      go : (b : Bool) → cond b (get_or f.fired (q / 2) false && inst_sent (moved f f.fired f.reads Q f.leaving L)
          (slot_of f.code (q / 2))) (get_or f.reads ((q - 256) / 2) false) ≡ true
          → (cond b (slot_sent f (q / 2)) (get_or f.reads ((q - 256) / 2) false) ≡ true) ⊎
          ((q ≡ 2 * s) ⊎ (q ≡ suc (2 * s)))
      go true h = let p = both_true _ _ h in
          elim (slot (slot_of f.code (q / 2)) refl p.1)
          [ inl z ↦ inl (ap₂ (λ x y. x && y) p.0 z) | inr z ↦ inr (half_places q s z) ]
      go false h = inl h

  pub answered_kept : NoneLost (load_answered n o f (Some (s, i)))
  answered_kept =
      let even : 2 * s % 2 ≡ 0 = omega arith in
      let all : length f.places ≡ 320 = ok.sized.places in
      let l = small in
      let room : suc (2 * s) < length f.places = omega (arith, all, l) in
      sends_kept f f.fired f.reads Q f.leaving L lost
      (λ t j e k h. elim (equal_or j.number n) [
        | inl z ↦ inl (λ y. here (sym (ap (at L) z) ∙ y))
        | inr z ↦ elim (lost.loads t j e k h) [
          | inl w ↦ inl (λ y. w (sym (other_at f.loads n j.number (Some T) z) ∙ y))
          | inr w ↦ inr (other_at f.requests n j.number None z ∙ w)
        ]
      ])
      (λ t j e k h. elim (lost.stores t j e k h) [
        | inl w ↦ inl w
        | inr w ↦ elim (equal_or j.number n) [
          | inl z ↦ absurd (let same : i ≡ j = one_asks f n s t i j asks (sym (ap (at f.requests) z) ∙ w) is e in
              not_both (form_of j.op) (sym (ap (λ (y : Inst). is_load (form_of y.op)) same) ∙ isload) k)
          | inr z ↦ inr (other_at f.requests n j.number None z ∙ w)
        ]
      ])
      lost.exits
      (slot_node f.code s) (2 * s) (token_with f (slot_node f.code s) (taken_word o f n T))
      (token_there f (slot_node f.code s) 0 (taken_word o f n T) (asked_is).ready) even room
      (slot_source f.code s small) newly

-- a Load that is done loses no token
pub load_kept : (blocks : List Block) → AllGood blocks → (n : ℕ) (o : Older) (f : Frame) → can_load n o f ≡ Done
    → FrameOk blocks o f → NoneLost f → NoneLost (load n o f)
load_kept blocks good n o f c ok lost =
    let a = not_now f.sealed NoFrame _ c in
    let b = not_now (not (is_request is_load (request f n))) NoRequest _ a.1 in
    let q : Stands is_load f n = stands is_load f n b.0 in
    subst (λ y. NoneLost (load_answered n o f y)) (sym q.is_request)
    (answered_kept blocks good o f ok lost n q.slot q.inst q.asks q.is_inst q.is_kind)

-- deliveries -------------------------------------------------------------------------------------

moved_kept : (blocks : List Block) (o : Older) (f : Frame) → FrameOk blocks o f → NoneLost f → (p : ℕ) (t : Token)
    → is_target (target f.code p) ≡ true → NoneLost (delivered p (Some t) f)
moved_kept blocks o f ok lost p t goes = record {
  tokens = λ q e g. elim (lost.tokens q e g) [
    | inl w ↦ elim (equal_or q p) [
      | inl z ↦ inr (λ y. let bad : Some t ≡ None = sym here
          ∙ sym (ap (λ k. at (set f.spots (target f.code p) (Some t)) (target f.code k)) z) ∙ y in cc)
      | inr z ↦ inl (λ y. w (sym (other_at f.places p q None z) ∙ y))
    ]
    | inr w ↦ inr (put_there true f.spots (target f.code p) t (target f.code q) w)
  ];
  loads = lost.loads;
  stores = lost.stores;
  exits = lost.exits;
}
  where
    here : at (set f.spots (target f.code p) (Some t)) (target f.code p) ≡ Some t
    here = set_here f.spots (target f.code p) (Some t) (let a : length f.spots ≡ 416 = ok.sized.spots in
        let l : target f.code p < 416 = grind (arith, nat_tests, goes) in omega arith)

-- a Deliver that is done loses no token
pub deliver_kept : (blocks : List Block) (p : ℕ) (o : Older) (f : Frame) → can_deliver p o f ≡ Done
    → FrameOk blocks o f → NoneLost f → NoneLost (deliver p o f)
deliver_kept blocks p o f c ok lost =
    let a = not_now f.sealed NoToken _ c in
    let b = not_now (is_none (at f.places p)) NoToken _ a.1 in
    let d = not_now (not (is_target (target f.code p))) NoToken _ b.1 in
    let t = some_of (at f.places p) b.0 in
    subst (λ u. NoneLost (delivered p u f)) (sym t.1) (moved_kept blocks o f ok lost p t.0 (not_false _ d.0))

-- lists of frames --------------------------------------------------------------------------------

cut_kept : (touched : ℕ → Bool) (fs : List Frame) → AllKept fs → AllKept (cut touched fs)
cut_kept touched [] h = tt
cut_kept touched (f ∷ fs) h =
    go (violated (λ n. passes (at f.stores) n touched) f.loads)
    (cut_kept (passes (at f.stores) numbers touched) fs h.1)
  where
    go : (b : Bool) → AllKept (cut (passes (at f.stores) numbers touched) fs)
        → AllKept (cond b [] (f ∷ cut (passes (at f.stores) numbers touched) fs))
    go true r = tt
    go false r = (h.0, r)

rest_kept : (known : Option ℕ) (fs : List Frame) → AllKept fs → AllKept (kept known fs)
rest_kept known [] h = tt
rest_kept known (f ∷ fs) h = go (follows known f.block)
  where
    go : (b : Bool) → AllKept (cond b (f ∷ fs) [])
    go true = h
    go false = tt

-- stores -----------------------------------------------------------------------------------------

stored_kept : (blocks : List Block) (o : Older) (f : Frame) → FrameOk blocks o f → NoneLost f → (n s : ℕ) (i : Inst)
    → at f.requests n ≡ Some s → slot_of f.code s ≡ Some i → is_store (form_of i.op) ≡ true
    → NoneLost (with_store n (stored_of i (at f.spots s) (at f.spots (128 + s))) (mark_with f (slot_node f.code s)) f)
stored_kept blocks o f ok lost n s i asks is isstore = record {
  tokens = lost.tokens;
  loads = λ t j e k h. elim (lost.loads t j e k h) [
    | inl w ↦ inl w
    | inr w ↦ elim (equal_or j.number n) [
      | inl z ↦ absurd (let same : i ≡ j = one_asks f n s t i j asks (sym (ap (at f.requests) z) ∙ w) is e in
          not_both (form_of j.op) k (sym (ap (λ (y : Inst). is_store (form_of y.op)) same) ∙ isstore))
      | inr z ↦ inr (other_at f.requests n j.number None z ∙ w)
    ]
  ];
  stores = λ t j e k h. elim (equal_or j.number n) [
    | inl z ↦ inl (λ y. store_there f s i is isstore (ok.asked n s asks).ready (sym here
        ∙ sym (ap (at (set f.stores n S)) z) ∙ y))
    | inr z ↦ elim (lost.stores t j e k h) [
      | inl w ↦ inl (λ y. w (sym (other_at f.stores n j.number S z) ∙ y))
      | inr w ↦ inr (other_at f.requests n j.number None z ∙ w)
    ]
  ];
  exits = lost.exits;
}
  where
    S : Option Stored
    S = stored_of i (at f.spots s) (at f.spots (128 + s))

    here : at (set f.stores n S) n ≡ S
    here = set_here f.stores n S (let l : n < length f.requests = in_range f.requests n s asks in
        let a : length f.requests ≡ 32 = ok.sized.requests in let b : length f.stores ≡ 32 = ok.sized.stores in
        omega arith)

-- a Store that is done loses no token of the frames that it keeps
pub store_kept : (blocks : List Block) (n : ℕ) (o : Older) (f : Frame) (fs : List Frame) → can_store n o f ≡ Done
    → FramesOk blocks o (f ∷ fs) → AllKept (f ∷ fs) → AllKept (store n o f fs)
store_kept blocks n o f fs c ok all =
    let a = not_now f.sealed NoFrame _ c in
    let b = not_now (not (is_request is_store (request f n))) NoRequest _ a.1 in
    let q : Stands is_store f n = stands is_store f n b.0 in
    subst (λ y. AllKept (store_resolved n f fs y)) (sym q.is_request)
    (go (with_store n (stored_of q.inst (at f.spots q.slot) (at f.spots (128 + q.slot)))
    (mark_with f (slot_node f.code q.slot)) f)
    (violated (nearest (at (set f.stores n (stored_of q.inst (at f.spots q.slot) (at f.spots (128 + q.slot))))) n)
    f.loads)
    (stored_kept blocks o f ok.2 (all.0 a.0) n q.slot q.inst q.asks q.is_inst q.is_kind))
  where
    go : (W : Frame) (b : Bool) → NoneLost W → AllKept (cond b [] (W ∷ cut (nearest (at W.stores) n numbers) fs))
    go W true k = tt
    go W false k = (λ z. k, cut_kept (nearest (at W.stores) n numbers) fs all.1)

-- exits ------------------------------------------------------------------------------------------

left_kept : (blocks : List Block) (o : Older) (f : Frame) → FrameOk blocks o f → NoneLost f → (s : ℕ)
    → f.leaving ≡ Some s
    → NoneLost (with_exit (exit_by blocks f.block (branch_of f (Some s))) (branch_mark f (Some s)) f)
left_kept blocks o f ok lost s leaves = record {
  tokens = lost.tokens;
  loads = lost.loads;
  stores = lost.stores;
  exits = λ t j e k h. inl (there (token_with f (slot_node f.code s) 0) q.ready);
}
  where
    q : Leaves f s
    q = ok.leaving s leaves

    some : (t : Answer) → t ≢ None → exit_by blocks f.block (leaves_with (Some (ok.leaving s leaves).inst) t) ≢ None
    some None n z = n refl
    some (Some t) n z = cc

    there : (t : Answer) → t ≢ None → exit_by blocks f.block (leaves_with (slot_of f.code s) t) ≢ None
    there t n z = some t n (ap (λ o. exit_by blocks f.block (leaves_with o t)) (sym (ok.leaving s leaves).is_inst)
        ∙ z)

-- an Exit that is done loses no token of the frames that it keeps
pub exit_kept : (blocks : List Block) (o : Older) (f : Frame) (fs : List Frame) → can_exit o f ≡ Done
    → FramesOk blocks o (f ∷ fs) → AllKept (f ∷ fs) → AllKept (exit blocks o f fs)
exit_kept blocks o f fs c ok all =
    let a = not_now f.sealed NoFrame _ c in
    let b = not_now (is_none f.leaving) NoExit _ a.1 in
    let s = some_of f.leaving b.0 in
    subst (λ y. AllKept (with_exit (exit_by blocks f.block (branch_of f y)) (branch_mark f y) f ∷ kept
    (successor_of (exit_by blocks f.block (branch_of f y))) fs)) (sym s.1)
    (λ z. left_kept blocks o f ok.2 (all.0 a.0) s.0 s.1, rest_kept _ fs all.1)

-- a Seal loses no token
pub seal_kept : (o : Older) (f : Frame) (fs : List Frame) → AllKept (f ∷ fs) → AllKept (alone seal o f fs)
seal_kept o f fs all = (λ z. absurd (true≢false z), all.1)

-- fetches ----------------------------------------------------------------------------------------

none_set : (n q : ℕ) → get_or (unset n) q false ≡ true → ⊥
none_set n q e = true≢false (sym e ∙ unset_at n q)

fresh_kept : (n k : ℕ) (b : Block) → NoneLost (fresh n k b)
fresh_kept n k b = record {
  tokens = λ p e g. absurd (go (nat_lt p 256) p e);
  loads = λ s i e l h. absurd (none_set 128 s h);
  stores = λ s i e l h. absurd (none_set 128 s h);
  exits = λ s i e l h. absurd (none_set 128 s h);
}
  where
    go : (c : Bool) (p : ℕ)
        → cond c (get_or (unset 128) (p / 2) false && inst_sent (fresh n k b) (slot_of b (p / 2)))
        (get_or (unset 32) ((p - 256) / 2) false) ≡ true → ⊥
    go true p e = none_set 128 (p / 2) (both_true _ _ e).0
    go false p e = none_set 32 ((p - 256) / 2) e

-- a fresh frame behind others has lost no token
pub fetch_kept : (n k : ℕ) (b : Block) (fs : List Frame) → AllKept fs → AllKept (fs ++ fresh n k b ∷ [])
fetch_kept n k b [] all = (λ z. fresh_kept n k b, tt)
fetch_kept n k b (f ∷ fs) all = (all.0, fetch_kept n k b fs all.1)

-- a change of one frame --------------------------------------------------------------------------

-- a change that loses no token of the frames from its own on, where it may be done, loses none of all frames
pub change_kept : (blocks : List Block) (can : Older → Frame → Happened) (does : Older → Frame → List Frame
    → List Frame)
    → ((o : Older) (f : Frame) (fs : List Frame) → can o f ≡ Done → FramesOk blocks o (f ∷ fs) → AllKept (f ∷ fs)
    → AllKept (does o f fs))
    → (c : Cause) (o : Older) (fs : List Frame) (n : ℕ) → on_frame (NotNow c) can o fs n ≡ Done
    → FramesOk blocks o fs → AllKept fs → AllKept (change does o fs n)
change_kept blocks can does k c o [] n e ok all = absurd (cc)
change_kept blocks can does k c o (f ∷ fs) n e ok all =
    go (f.number == n) e (λ d. change_kept blocks can does k c (after f o) fs n d ok.3 all.1)
  where
    go : (b : Bool) → cond b (can o f) (on_frame (NotNow c) can (after f o) fs n) ≡ Done
        → (on_frame (NotNow c) can (after f o) fs n ≡ Done → AllKept (change does (after f o) fs n))
        → AllKept (cond b (does o f fs) (f ∷ change does (after f o) fs n))
    go true d rest = k o f fs d ok all
    go false d rest = (all.0, rest d)

-- a change that loses no token of its own frame loses none of those behind it
pub alone_kept : (blocks : List Block) (can : Older → Frame → Happened) (does : Older → Frame → Frame)
    → ((o : Older) (f : Frame) → can o f ≡ Done → f.sealed ≡ false)
    → ((o : Older) (f : Frame) → can o f ≡ Done → FrameOk blocks o f → NoneLost f → NoneLost (does o f))
    → (o : Older) (f : Frame) (fs : List Frame) → can o f ≡ Done → FramesOk blocks o (f ∷ fs) → AllKept (f ∷ fs)
    → AllKept (alone does o f fs)
alone_kept blocks can does running k o f fs e ok all = (λ z. k o f e ok.2 (all.0 (running o f e)), all.1)
